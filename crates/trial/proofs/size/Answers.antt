-- `trial::size` meets its contract.
use mathlib.Core.Path.{sym, ap₂, ◌∙◌}
use Prim.Native.Nat.{ℕ}
use Rattle.std.proofs.Common.{Ok}
use Rattle.std.proofs.lemmas.Result.{err_from_is_err_and}
use Rattle.refusals.proofs.Answers.{ok-for, err-for, none_first}
use Rattle.trial.specs.Designs.{design_checks}
use Rattle.trial.specs.Refusals.{trial_checks}
use Rattle.trial.specs.Exchange.{row_total}
use Rattle.trial.specs.Lent.{full_size, size_of}
use Rattle.trial.proofs.Accepted.{accepted_ok}
use Rattle.trial.proofs.size.Goals as goal

pub returns-in_err-check : goal.returns-in_err-check
unfolding size_of
returns-in_err-check c =
    let p = err_from_is_err_and c.from_residual.result c.from_residual.ensures.1 in
    rw (p.1, p.2) (sym (err-for (trial_checks c.args.t) tt (full_size c.args.t) _ (sym c.in_err-check.ensures)))

pub rows-requires : goal.rows-requires
rows-requires c = none_first (design_checks c.args.t.shape.design) (accepted_ok c.args.t tt (sym c.in_ok-check.ensures)).layout-good

pub mask-requires : goal.mask-requires
mask-requires c = let k = accepted_ok c.args.t tt (sym c.in_ok-check.ensures) in (k.offers-most, k.laid.units-some, k.laid.units-most)

pub returns : goal.returns
unfolding size_of row_total
returns c =
    ap₂ (λ (m l : ℕ). Ok (record { rows = m; columns = c.args.t.shape.offers; live = l })) c.rows.ensures c.mask.ensures
    ∙ sym (ok-for (trial_checks c.args.t) tt tt (full_size c.args.t) (sym c.in_ok-check.ensures))
