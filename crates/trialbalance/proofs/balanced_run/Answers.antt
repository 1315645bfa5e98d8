-- `balanced_run`: the table is made, its columns are ranked in place, and that is run with row 0 observed over the live offers.
use Rattle.std.proofs.Common.{◌≡◌, sym, ◌∙◌, arith}
use Rattle.std.proofs.lemmas.Result.{err_from_is_err_and}
use lib.Seq.{length-take-le}
use Rattle.runs.specs.FullRuns.{accepted_run}
use Rattle.balance.specs.Balance.{balanced_rows}
use Rattle.trial.specs.Exchange.{trial_rows}
use Rattle.trialrun.specs.TrialRuns.{run_table, run_work}
use Rattle.trialrun.proofs.Tabled.{turned-answer, turned-buffer, small, room, good}
use Rattle.trialrun.proofs.Runs.{level-known, startable, told, left}
use Rattle.trialbalance.specs.TrialBalance.{trial_balanced, trial_balanced_run, trial_balanced_answer, run_balanced}
use Rattle.trialbalance.proofs.Calls.{few-rows, rankable, table-room, table_is, table-left, balanced-checked, balanced-rows, table-kept}
use Rattle.trialbalance.proofs.balanced_run.Goals as goal

pub returns-in_err-size-clause-value : goal.returns-in_err-size-clause-value
unfolding trial_balanced_answer
returns-in_err-size-clause-value c =
    let p = err_from_is_err_and c.from_residual.result c.from_residual.ensures.1 in
    rw (p.1, p.2) (sym (turned-answer c.args.t c.args.table.now c.args.work.now _ (sym c.in_err-size.ensures.value) (accepted_run (trial_balanced_run c.args.t))))

pub returns-in_err-size-clause-table_after : goal.returns-in_err-size-clause-table_after
returns-in_err-size-clause-table_after c = c.in_err-size.ensures.table_after ∙ table-kept c.args.t c.args.table.now c.args.work.now _ (sym c.in_err-size.ensures.value)

pub returns-in_err-size-clause-work_after : goal.returns-in_err-size-clause-work_after
unfolding run_work
returns-in_err-size-clause-work_after c = sym (turned-buffer c.args.t c.args.table.now c.args.work.now _ (sym c.in_err-size.ensures.value) _ _)

pub overflow_mul-total : goal.overflow_mul-total
overflow_mul-total c = record { fits = omega (arith, small c.args.t c.args.table.now c.args.work.now _ (sym c.in_ok-size.ensures.value)) }

pub slice_bounds-balance-end : goal.slice_bounds-balance-end
slice_bounds-balance-end c = room c.args.t c.args.table.now c.args.work.now _ (sym c.in_ok-size.ensures.value) _ c.in_ok-size.ensures.table_after

pub slice_bounds-balance-end-2 : goal.slice_bounds-balance-end-2
slice_bounds-balance-end-2 c = sym (length-take-le _ _ (room c.args.t c.args.table.now c.args.work.now _ (sym c.in_ok-size.ensures.value) _ c.in_ok-size.ensures.table_after))

pub slice_bounds-places-end : goal.slice_bounds-places-end
slice_bounds-places-end c = few-rows c.args.t c.args.table.now c.args.work.now _ (sym c.in_ok-size.ensures.value) _ c.in_ok-size.ensures.table_after

pub slice_bounds-balance-end-3 : goal.slice_bounds-balance-end-3
slice_bounds-balance-end-3 c = sym (length-take-le _ _ (few-rows c.args.t c.args.table.now c.args.work.now _ (sym c.in_ok-size.ensures.value) _ c.in_ok-size.ensures.table_after))

pub slice_bounds-order-end : goal.slice_bounds-order-end
slice_bounds-order-end c = few-rows c.args.t c.args.table.now c.args.work.now _ (sym c.in_ok-size.ensures.value) _ c.in_ok-size.ensures.table_after

pub slice_bounds-balance-end-4 : goal.slice_bounds-balance-end-4
slice_bounds-balance-end-4 c = sym (length-take-le _ _ (few-rows c.args.t c.args.table.now c.args.work.now _ (sym c.in_ok-size.ensures.value) _ c.in_ok-size.ensures.table_after))

pub slice_bounds-spare-end : goal.slice_bounds-spare-end
slice_bounds-spare-end c = few-rows c.args.t c.args.table.now c.args.work.now _ (sym c.in_ok-size.ensures.value) _ c.in_ok-size.ensures.table_after

pub slice_bounds-balance-end-5 : goal.slice_bounds-balance-end-5
slice_bounds-balance-end-5 c = sym (length-take-le _ _ (few-rows c.args.t c.args.table.now c.args.work.now _ (sym c.in_ok-size.ensures.value) _ c.in_ok-size.ensures.table_after))

pub balance-requires : goal.balance-requires
balance-requires c =
    (rankable c.args.t c.args.table.now c.args.work.now _ (sym c.in_ok-size.ensures.value) _ c.in_ok-size.ensures.table_after, record { first = length-take-le _ _ (few-rows c.args.t c.args.table.now c.args.work.now _ (sym c.in_ok-size.ensures.value) _ c.in_ok-size.ensures.table_after); second = length-take-le _ _ (few-rows c.args.t c.args.table.now c.args.work.now _ (sym c.in_ok-size.ensures.value) _ c.in_ok-size.ensures.table_after); third = length-take-le _ _ (few-rows c.args.t c.args.table.now c.args.work.now _ (sym c.in_ok-size.ensures.value) _ c.in_ok-size.ensures.table_after) })

pub allowance-e-requires : goal.allowance-e-requires
allowance-e-requires c = level-known c.args.t c.args.table.now c.args.work.now _ (sym c.in_ok-size.ensures.value)

pub slice_bounds-full_run-end : goal.slice_bounds-full_run-end
slice_bounds-full_run-end c = table-room c.args.t c.args.table.now c.args.work.now _ (sym c.in_ok-size.ensures.value) _ c.in_ok-size.ensures.table_after _ c.balance.ensures

pub slice_bounds-full_run-end-2 : goal.slice_bounds-full_run-end-2
slice_bounds-full_run-end-2 c = sym (length-take-le _ _ (table-room c.args.t c.args.table.now c.args.work.now _ (sym c.in_ok-size.ensures.value) _ c.in_ok-size.ensures.table_after _ c.balance.ensures))

pub full_run-requires : goal.full_run-requires
full_run-requires c =
    startable c.args.t c.args.table.now c.args.work.now _ (sym c.in_ok-size.ensures.value) _ c.allowance-e.ensures _ _ (table_is c.args.t c.args.table.now c.args.work.now _ (sym c.in_ok-size.ensures.value) _ c.in_ok-size.ensures.table_after _ c.balance.ensures) (balanced-checked c.args.t (good c.args.t c.args.table.now c.args.work.now _ (sym c.in_ok-size.ensures.value)))

pub returns-clause-value : goal.returns-clause-value
unfolding trial_balanced_answer trial_balanced_run
returns-clause-value c =
    told c.args.t c.args.table.now c.args.work.now _ (sym c.in_ok-size.ensures.value) _ c.allowance-e.ensures _ _ (table_is c.args.t c.args.table.now c.args.work.now _ (sym c.in_ok-size.ensures.value) _ c.in_ok-size.ensures.table_after _ c.balance.ensures) (balanced_rows (trial_rows c.args.t)) (balanced-rows c.args.t) _ c.full_run.ensures.value

pub returns-clause-table_after : goal.returns-clause-table_after
returns-clause-table_after c = table-left c.args.t c.args.table.now c.args.work.now _ (sym c.in_ok-size.ensures.value) _ c.in_ok-size.ensures.table_after _ c.balance.ensures

pub returns-clause-work_after : goal.returns-clause-work_after
returns-clause-work_after c = left c.args.t c.args.table.now c.args.work.now _ (sym c.in_ok-size.ensures.value) _ c.full_run.ensures.work_after
