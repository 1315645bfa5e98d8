-- `file_run`: read, and where nothing is refused the trial is run.
use Rattle.std.proofs.Common.{◌≡◌, sym, ◌∙◌}
use Rattle.std.proofs.lemmas.Result.{err_from_is_err_and}
use Rattle.runs.specs.FullRuns.{accepted_run}
use Rattle.runs.specs.declared.FullRun.{FullRun}
use Rattle.trial.specs.declared.Trial.{Trial}
use Rattle.trialrun.specs.TrialRuns.{trial_run, trial_answer}
use Rattle.trialrun.specs.FileRuns.{file_run}
use Rattle.trialrun.specs.declared.FileRun.{FileRun}
use Rattle.trialrun.proofs.Files.{pair_of, file-refused, never-turned, file-done}
use Rattle.trialrun.proofs.file_run.Goals as goal

abbrev done : Trial → FullRun
done t = accepted_run (trial_run t)

pub returns-in_err-trial : goal.returns-in_err-trial
unfolding file_run
returns-in_err-trial c =
    let p = err_from_is_err_and c.from_residual.result c.from_residual.ensures.1 in
    rw (p.1, p.2) (file-refused c.args.file.now pair_of done _ (sym c.in_err-trial.ensures))

-- nothing turns away the trial of an accepted file
pub returns-in_err-run : goal.returns-in_err-run
unfolding trial_answer
returns-in_err-run c = absurd (never-turned c.args.file.now pair_of done _ (sym c.in_ok-trial.ensures) _ (sym c.in_err-run.ensures.value))

pub returns : goal.returns
unfolding file_run trial_answer
returns c = file-done c.args.file.now pair_of done _ (sym c.in_ok-trial.ensures) _ (sym c.in_ok-run.ensures.value)
