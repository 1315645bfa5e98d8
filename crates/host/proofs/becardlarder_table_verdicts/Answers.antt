-- `becardlarder_table_verdicts`: where there is no byte for each column only the refusal is looked for; otherwise the table is run, the verdicts are written and the rejected counted.
use Prim.Native.Nat.{ℕ, ◌+◌}
use native.Mathlib.Omega.{arith}
use mathlib.Core.Path.{ap, ◌∙◌}
use lib.ListN.{length-take}
use borrow.Author.Rules.{rules}
use Rattle.host.proofs.VerdictBytes.{count_fits}
use Rattle.host.proofs.Lent.{part}
use Rattle.host.proofs.Tables.{table-known, table_short, table-early, table-refused, table_done}
use Rattle.host.proofs.becardlarder_table_verdicts.Goals as goal

pub returns-in-Ok : goal.returns-in-Ok
returns-in-Ok c =
    let d = table_short _ _ _ _ _ _ _ c.args.work.now c.args.verdicts.now _ c.in-Ok.ensures c.if-verdicts-columns.true in
    record { value = ap (λ (n : ℕ). 100 + n) c.from.ensures ∙ d.0; work_after = d.1.0; verdicts_after = d.1.1 }

pub returns-in-Err : goal.returns-in-Err
returns-in-Err c =
    let d = table-early _ _ _ _ _ _ _ c.args.work.now c.args.verdicts.now c.in-Err.early c.in-Err.ensures in
    record { value = ap (λ (n : ℕ). 100 + n) c.from-in-Err.ensures ∙ d.0; work_after = d.1.0; verdicts_after = d.1.1 }

pub bytes_of-requires : goal.bytes_of-requires
bytes_of-requires c = (table-known _ _ _ _ _ _ _ _ _ c.in-Ok-full_run.ensures.value).1

pub slice_bounds-put-end : goal.slice_bounds-put-end
slice_bounds-put-end c = (part _ c.bytes_of.result (table-known _ _ _ _ _ _ _ _ _ c.in-Ok-full_run.ensures.value).0 (search rules)).0

pub slice_bounds-put-end-in-Ok-full_run : goal.slice_bounds-put-end-in-Ok-full_run
slice_bounds-put-end-in-Ok-full_run c = (part _ c.bytes_of.result (table-known _ _ _ _ _ _ _ _ _ c.in-Ok-full_run.ensures.value).0 (search rules)).1

pub put-requires : goal.put-requires
put-requires c = simp length-take (omega (arith, c.if-verdicts-columns.false))

pub overflow_cast-result : goal.overflow_cast-result
overflow_cast-result c = record { fits = count_fits _ _ _ c.rejected_count.ensures (omega (arith, (table-known _ _ _ _ _ _ _ _ _ c.in-Ok-full_run.ensures.value).0)) }

pub returns-in-Ok-full_run : goal.returns-in-Ok-full_run
returns-in-Ok-full_run c =
    let d = table_done _ _ _ _ _ _ _ c.args.work.now c.args.verdicts.now _ c.in-Ok-full_run.ensures.value _ c.in-Ok-full_run.ensures.work_after c.if-verdicts-columns.false _ c.rejected_count.ensures _ c.bytes_of.ensures _ c.put.ensures in
    record { value = d.0; work_after = d.1.0; verdicts_after = d.1.1 }

pub returns-in-Err-full_run : goal.returns-in-Err-full_run
returns-in-Err-full_run c =
    let d = table-refused _ _ _ _ _ _ _ c.args.work.now c.args.verdicts.now c.in-Err-full_run.refusal c.in-Err-full_run.ensures.value _ c.in-Err-full_run.ensures.work_after in
    record { value = ap (λ (n : ℕ). 100 + n) c.from-in-Err-full_run.ensures ∙ d.0; work_after = d.1.0; verdicts_after = d.1.1 }
