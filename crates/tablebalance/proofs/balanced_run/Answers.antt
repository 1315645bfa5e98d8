-- `balanced_run`: the checks, the balanced table, and its full run.
use borrow.Author.Tests.{ltb-false}
use mathlib.Core.Path.{◌∙◌}
use Rattle.tablebalance.proofs.Calls.{work-kept, not-made, run-answer, run-out, run-work}
use Rattle.tablebalance.proofs.balanced_run.Goals as goal

pub returns-in_err-check_table_run-clause-work_after : goal.returns-in_err-check_table_run-clause-work_after
returns-in_err-check_table_run-clause-work_after c = work-kept _ _ _ _ _ _ _ c.args.out.now c.args.work.now _ c.in_err-check_table_run.ensures

pub returns-in_err-balanced_table : goal.returns-in_err-balanced_table
returns-in_err-balanced_table c = absurd (not-made _ _ _ _ _ _ _ c.args.out.now c.args.work.now c.in_ok-check_table_run.ensures (ltb-false _ _ c.in_ok-if_true.ensures.passed) _ c.in_err-balanced_table.ensures.value)

pub returns : goal.returns
returns c =
    let a = c.args in
    let e = c.in_ok-check_table_run.ensures in
    let h = ltb-false _ _ c.in_ok-if_true.ensures.passed in
    let m = c.balanced_table.ensures.out_after in
    let f = c.full_run.ensures in
    record {
      value = f.value ∙ run-answer _ _ _ _ _ _ _ a.out.now a.work.now e h _ m;
      out_after = run-out _ _ _ _ _ _ _ a.out.now a.work.now e h _ m;
      work_after = f.work_after ∙ run-work _ _ _ _ _ _ _ a.out.now a.work.now e h _ m;
    }
