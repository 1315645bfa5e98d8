-- `becardlarder_trial_verdicts`: the file is run, and its run told.
use Rattle.trial.specs.Exchange.{trial_rows}
use Rattle.trialrun.specs.TrialRuns.{trial_run}
use Rattle.trialrun.specs.FileRuns.{file_run}
use Rattle.host.specs.Calls.{trial_verdicts_answer, trial_verdicts_buffer}
use Rattle.host.proofs.Files.{file-tellable, file-told}
use Rattle.host.proofs.becardlarder_trial_verdicts.Goals as goal

pub tell-requires : goal.tell-requires
unfolding file_run trial_run
tell-requires c = file-tellable trial_rows _ _ c.file_run.ensures

pub returns : goal.returns
unfolding file_run trial_run trial_verdicts_answer trial_verdicts_buffer
returns c =
    let the-clauses = (
    let a = c.args in
    file-told trial_rows a.file.now _ c.file_run.ensures a.verdicts.now _ _ c.tell.ensures
    ) in
    record { value = the-clauses.0; verdicts_after = the-clauses.1 }
