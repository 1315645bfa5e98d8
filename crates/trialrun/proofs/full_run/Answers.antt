-- `full_run`: the table is made, and run with row 0 observed over the live offers.
use Rattle.std.proofs.Common.{◌≡◌, sym, ◌∙◌, arith}
use Rattle.std.proofs.lemmas.Result.{err_from_is_err_and}
use lib.Seq.{length-take-le}
use Rattle.runs.specs.FullRuns.{accepted_run}
use Rattle.trial.specs.Exchange.{trial_rows}
use Rattle.trial.proofs.Tables.{table_of-rows}
use Rattle.trialrun.specs.TrialRuns.{trial_run, trial_answer, run_work}
use Rattle.trialrun.proofs.Tabled.{turned-answer, turned-buffer, small, room, good, front}
use Rattle.trialrun.proofs.Runs.{level-known, startable, told, left, table-checked}
use Rattle.trialrun.proofs.full_run.Goals as goal

pub returns-in_err-size-clause-value : goal.returns-in_err-size-clause-value
unfolding trial_answer
returns-in_err-size-clause-value c =
    let p = err_from_is_err_and c.from_residual.result c.from_residual.ensures.1 in
    rw (p.1, p.2) (sym (turned-answer c.args.t c.args.table.now c.args.work.now _ (sym c.in_err-size.ensures.value) (accepted_run (trial_run c.args.t))))

pub returns-in_err-size-clause-table_after : goal.returns-in_err-size-clause-table_after
returns-in_err-size-clause-table_after c = c.in_err-size.ensures.table_after

pub returns-in_err-size-clause-work_after : goal.returns-in_err-size-clause-work_after
unfolding run_work
returns-in_err-size-clause-work_after c = sym (turned-buffer c.args.t c.args.table.now c.args.work.now _ (sym c.in_err-size.ensures.value) _ _)

pub overflow_mul-total : goal.overflow_mul-total
overflow_mul-total c = record { fits = omega (arith, small c.args.t c.args.table.now c.args.work.now _ (sym c.in_ok-size.ensures.value)) }

pub allowance-e-requires : goal.allowance-e-requires
allowance-e-requires c = level-known c.args.t c.args.table.now c.args.work.now _ (sym c.in_ok-size.ensures.value)

pub slice_bounds-full_run-end : goal.slice_bounds-full_run-end
slice_bounds-full_run-end c = room c.args.t c.args.table.now c.args.work.now _ (sym c.in_ok-size.ensures.value) _ c.in_ok-size.ensures.table_after

pub slice_bounds-full_run-end-2 : goal.slice_bounds-full_run-end-2
slice_bounds-full_run-end-2 c = sym (length-take-le _ _ (room c.args.t c.args.table.now c.args.work.now _ (sym c.in_ok-size.ensures.value) _ c.in_ok-size.ensures.table_after))

pub full_run-requires : goal.full_run-requires
full_run-requires c =
    startable c.args.t c.args.table.now c.args.work.now _ (sym c.in_ok-size.ensures.value) _ c.allowance-e.ensures _ _ (front c.args.t c.args.table.now c.args.work.now _ (sym c.in_ok-size.ensures.value) _ c.in_ok-size.ensures.table_after)
    (table-checked c.args.t (good c.args.t c.args.table.now c.args.work.now _ (sym c.in_ok-size.ensures.value)))

pub returns-clause-value : goal.returns-clause-value
unfolding trial_answer trial_run
returns-clause-value c =
    told c.args.t c.args.table.now c.args.work.now _ (sym c.in_ok-size.ensures.value) _ c.allowance-e.ensures _ _ (front c.args.t c.args.table.now c.args.work.now _ (sym c.in_ok-size.ensures.value) _ c.in_ok-size.ensures.table_after) (trial_rows c.args.t) (table_of-rows c.args.t) _ c.full_run.ensures.value

pub returns-clause-table_after : goal.returns-clause-table_after
returns-clause-table_after c = c.in_ok-size.ensures.table_after

pub returns-clause-work_after : goal.returns-clause-work_after
returns-clause-work_after c = left c.args.t c.args.table.now c.args.work.now _ (sym c.in_ok-size.ensures.value) _ c.full_run.ensures.work_after
