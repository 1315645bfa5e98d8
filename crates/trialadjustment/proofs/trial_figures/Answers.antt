-- `trial_figures`: the table is made, and its figures are worked out with row 0 observed over the live offers.
use Rattle.std.proofs.Common.{◌≡◌, sym, ◌∙◌, arith}
use Rattle.std.proofs.lemmas.Result.{err_from_is_err_and}
use lib.Seq.{length-take-le}
use Rattle.adjustment.specs.Answers.{accepted_figures}
use Rattle.trial.specs.Exchange.{row_total}
use Rattle.trialrun.specs.TrialRuns.{run_work}
use Rattle.trialrun.proofs.Tabled.{turned-answer, turned-buffer, small, room, rows_are, work-room}
use Rattle.trialrun.proofs.Runs.{left}
use Rattle.trialadjustment.specs.TrialFigures.{trial_figures, trial_figures_answer}
use Rattle.trialadjustment.proofs.Calls.{figurable, figures-done}
use Rattle.trialadjustment.proofs.trial_figures.Goals as goal

pub returns-in_err-size-clause-value : goal.returns-in_err-size-clause-value
unfolding trial_figures_answer
returns-in_err-size-clause-value c =
    let p = err_from_is_err_and c.from_residual.result c.from_residual.ensures.1 in
    rw (p.1, p.2) (sym (turned-answer c.args.t c.args.table.now c.args.work.now _ (sym c.in_err-size.ensures.value) (accepted_figures (row_total c.args.t) (trial_figures c.args.t))))

pub returns-in_err-size-clause-table_after : goal.returns-in_err-size-clause-table_after
returns-in_err-size-clause-table_after c = c.in_err-size.ensures.table_after

pub returns-in_err-size-clause-work_after : goal.returns-in_err-size-clause-work_after
unfolding run_work
returns-in_err-size-clause-work_after c = sym (turned-buffer c.args.t c.args.table.now c.args.work.now _ (sym c.in_err-size.ensures.value) _ _)

pub overflow_mul-total : goal.overflow_mul-total
overflow_mul-total c = record { fits = omega (arith, small c.args.t c.args.table.now c.args.work.now _ (sym c.in_ok-size.ensures.value)) }

pub clear-requires : goal.clear-requires
clear-requires c = omega (arith, rows_are c.args.t c.args.table.now c.args.work.now _ (sym c.in_ok-size.ensures.value), work-room c.args.t c.args.table.now c.args.work.now _ (sym c.in_ok-size.ensures.value))

pub slice_bounds-all_figures-end : goal.slice_bounds-all_figures-end
slice_bounds-all_figures-end c = room c.args.t c.args.table.now c.args.work.now _ (sym c.in_ok-size.ensures.value) _ c.in_ok-size.ensures.table_after

pub slice_bounds-all_figures-end-2 : goal.slice_bounds-all_figures-end-2
slice_bounds-all_figures-end-2 c = sym (length-take-le _ _ (room c.args.t c.args.table.now c.args.work.now _ (sym c.in_ok-size.ensures.value) _ c.in_ok-size.ensures.table_after))

pub all_figures-figures-requires : goal.all_figures-figures-requires
all_figures-figures-requires c = figurable c.args.t c.args.table.now c.args.work.now _ (sym c.in_ok-size.ensures.value) _ c.in_ok-size.ensures.table_after

pub returns-clause-value : goal.returns-clause-value
returns-clause-value c = figures-done c.args.t c.args.table.now c.args.work.now _ (sym c.in_ok-size.ensures.value) _ c.in_ok-size.ensures.table_after _ c.all_figures-figures.ensures

pub returns-clause-table_after : goal.returns-clause-table_after
returns-clause-table_after c = c.in_ok-size.ensures.table_after

pub returns-clause-work_after : goal.returns-clause-work_after
returns-clause-work_after c = left c.args.t c.args.table.now c.args.work.now _ (sym c.in_ok-size.ensures.value) _ c.clear.ensures
