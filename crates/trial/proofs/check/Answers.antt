-- `trial::check` meets its contract: the record's list, part by part.
use mathlib.Core.Path.{◌≡◌, sym, ◌∙◌}
use native.Mathlib.Omega.{arith}
use lib.ListN.{length}
use borrow.Author.Rules.{rules}
use Rattle.limits.specs.Limits.{figures_most}
use Rattle.std.proofs.lemmas.Result.{err_from_is_err_and}
use Rattle.trial.proofs.Conditions.{figures_sliced, heading_err, offers_err, figures_left, places_held}
use Rattle.trial.proofs.check.Goals as goal

pub returns-in_err-heading : goal.returns-in_err-heading
returns-in_err-heading c =
    let p = err_from_is_err_and c.from_residual.result c.from_residual.ensures.1 in
    rw (p.1, p.2) (sym (heading_err c.args.t tt tt _ (sym c.in_err-heading.ensures)))

pub offers-requires : goal.offers-requires
offers-requires c = (places_held _ _ (sym c.in_ok-heading.ensures)).0

pub returns-in_err-offers : goal.returns-in_err-offers
returns-in_err-offers c =
    let p = err_from_is_err_and c.from_residual-in_err-offers.result c.from_residual-in_err-offers.ensures.1 in
    rw (p.1, p.2) (sym (offers_err c.args.t tt tt _ (sym c.in_ok-heading.ensures) _ (sym c.in_err-offers.ensures)))

pub figure_count-requires : goal.figure_count-requires
figure_count-requires c = places_held _ _ (sym c.in_ok-heading.ensures)

pub returns : goal.returns
returns c =
    let n = c.figure_count.ensures in
    let places : length c.args.t.figures ≡ figures_most = search rules in
    c.figures.ensures ∙ figures_sliced c.args.t _ n.0 (omega (arith, n.1, places)) ∙ sym (figures_left c.args.t tt tt _ (sym c.in_ok-heading.ensures) (sym c.in_ok-offers.ensures))
