-- `becardlarder_trial_adjusted`: the figures of the file are worked out, the buffer is measured, the figures and M are written.
use Prim.Native.Nat.{ℕ, ◌+◌}
use native.Mathlib.Omega.{arith}
use mathlib.Core.Path.{ap, ◌∙◌}
use lib.ListN.{length-take}
use borrow.Author.Rules.{rules}
use Rattle.host.proofs.Lent.{part}
use Rattle.host.proofs.AdjustedFiles.{figured-known, figured-refused, figured-short, figured-done}
use Rattle.host.proofs.adjusted.becardlarder_trial_adjusted.Goals as goal

pub returns-then-figures-offers : goal.returns-then-figures-offers
returns-then-figures-offers c =
    let d = figured-short c.args.file.now c.args.figures.now c.args.rows.now _ c.in-Ok.ensures c.if-figures-offers.true in
    record { value = ap (λ (n : ℕ). 100 + n) c.from.ensures ∙ d.0; figures_after = d.1.0; rows_after = d.1.1 }

pub all_narrow-requires : goal.all_narrow-requires
all_narrow-requires c = (figured-known c.args.file.now _ c.in-Ok.ensures).1

pub slice_bounds-put-end : goal.slice_bounds-put-end
slice_bounds-put-end c = (part _ c.all_narrow.result (figured-known c.args.file.now _ c.in-Ok.ensures).0 (search rules)).0

pub slice_bounds-put-end-in-Ok : goal.slice_bounds-put-end-in-Ok
slice_bounds-put-end-in-Ok c = (part _ c.all_narrow.result (figured-known c.args.file.now _ c.in-Ok.ensures).0 (search rules)).1

pub put-requires : goal.put-requires
put-requires c = simp length-take (omega (arith, c.if-figures-offers.false))

pub overflow_cast-rows : goal.overflow_cast-rows
overflow_cast-rows c = let k = figured-known c.args.file.now _ c.in-Ok.ensures in record { fits = omega (arith, k.0, k.2) }

pub returns-else-figures-offers : goal.returns-else-figures-offers
returns-else-figures-offers c =
    let d = figured-done c.args.file.now c.args.figures.now c.args.rows.now _ c.in-Ok.ensures c.if-figures-offers.false _ c.all_narrow.ensures _ c.put.ensures in
    record { value = d.0; figures_after = d.1.0; rows_after = d.1.1 }

pub returns-in-Err : goal.returns-in-Err
returns-in-Err c =
    let d = figured-refused c.args.file.now c.args.figures.now c.args.rows.now c.in-Err.refusal c.in-Err.ensures in
    record { value = ap (λ (n : ℕ). 100 + n) c.from-in-Err.ensures ∙ d.0; figures_after = d.1.0; rows_after = d.1.1 }
