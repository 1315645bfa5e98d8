-- `trial::checks::check_offer` meets its contract; beyond the last place it is 5.
use mathlib.Core.Path.{◌≡◌, sym}
use native.Mathlib.Omega.{arith}
use lib.Dec.{leb}
use borrow.Author.Tests.{leb-true}
use lib.ListN.{length}
use borrow.Author.Rules.{rules}
use Rattle.std.proofs.lemmas.Result.{err_from_is_err_and}
use Rattle.limits.specs.Limits.{offers_most}
use Rattle.trial.proofs.Conditions.{refused_is, offer_beyond}
use Rattle.trial.proofs.checks.check_offer.Goals as goal

pub returns-in_err-if_true : goal.returns-in_err-if_true
returns-in_err-if_true c =
    let digits : length c.args.labels.digits ≡ offers_most = search rules in
    let p = err_from_is_err_and c.from_residual.result c.from_residual.ensures.1 in
    let r = refused_is (leb offers_most c.args.i) c.in_err-if_true.ensures.value in
    let l = c.args.labels in
    rw (p.1, p.2, r.1) (sym (offer_beyond l.codes l.digits c.args.i (omega (arith, leb-true offers_most c.args.i r.0, digits))))
