-- `becardlarder_table_adjusted`: where there is no place for each column only the refusal is looked for; otherwise the figures are worked out and written.
use Prim.Native.Nat.{ℕ, ◌+◌}
use native.Mathlib.Omega.{arith}
use mathlib.Core.Path.{ap, ◌∙◌}
use lib.ListN.{length-take}
use borrow.Author.Rules.{rules}
use Rattle.host.proofs.Lent.{part}
use Rattle.host.proofs.AdjustedTables.{adjusted-known, adjusted-never, adjusted-cramped, adjusted-refused, adjusted-done}
use Rattle.host.proofs.adjusted.becardlarder_table_adjusted.Goals as goal

pub returns-in-Ok : goal.returns-in-Ok
returns-in-Ok c = absurd (adjusted-never _ _ _ _ _ _ c.in-Ok.ensures.value)

pub returns-in-Err : goal.returns-in-Err
returns-in-Err c =
    let d = adjusted-cramped _ _ _ _ _ c.args.work.now c.args.figures.now c.if-figures-columns.true c.in-Err.early c.in-Err.ensures.value _ c.in-Err.ensures.work_after in
    record { value = ap (λ (n : ℕ). 100 + n) c.from-in-Err.ensures ∙ d.0; work_after = d.1.0; figures_after = d.1.1 }

pub all_narrow-requires : goal.all_narrow-requires
all_narrow-requires c = (adjusted-known _ _ _ _ _ _ _ c.in-Ok-adjusted_figures.ensures.value).1

pub slice_bounds-put-end : goal.slice_bounds-put-end
slice_bounds-put-end c = (part _ c.all_narrow.result (adjusted-known _ _ _ _ _ _ _ c.in-Ok-adjusted_figures.ensures.value).0 (search rules)).0

pub slice_bounds-put-end-in-Ok-adjusted_figures : goal.slice_bounds-put-end-in-Ok-adjusted_figures
slice_bounds-put-end-in-Ok-adjusted_figures c = (part _ c.all_narrow.result (adjusted-known _ _ _ _ _ _ _ c.in-Ok-adjusted_figures.ensures.value).0 (search rules)).1

pub put-requires : goal.put-requires
put-requires c = simp length-take (omega (arith, c.if-figures-columns.false))

pub returns-in-Ok-adjusted_figures : goal.returns-in-Ok-adjusted_figures
returns-in-Ok-adjusted_figures c =
    let e = c.in-Ok-adjusted_figures.ensures in
    let d = adjusted-done _ _ _ _ _ c.args.work.now c.args.figures.now _ e.value _ e.work_after c.if-figures-columns.false _ c.all_narrow.ensures _ c.put.ensures in
    record { value = d.0; work_after = d.1.0; figures_after = d.1.1 }

pub returns-in-Err-adjusted_figures : goal.returns-in-Err-adjusted_figures
returns-in-Err-adjusted_figures c =
    let e = c.in-Err-adjusted_figures.ensures in
    let d = adjusted-refused _ _ _ _ _ c.args.work.now c.args.figures.now c.in-Err-adjusted_figures.refusal e.value _ e.work_after in
    record { value = ap (λ (n : ℕ). 100 + n) c.from-in-Err-adjusted_figures.ensures ∙ d.0; work_after = d.1.0; figures_after = d.1.1 }
