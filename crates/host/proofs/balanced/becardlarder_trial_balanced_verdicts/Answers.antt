-- `becardlarder_trial_balanced_verdicts`: the balanced table of the file's trial is run, and its run told.
use Rattle.balance.specs.Balance.{balanced_rows}
use Rattle.trial.specs.Exchange.{trial_rows}
use Rattle.trialbalance.specs.TrialBalance.{trial_balanced_run}
use Rattle.trialbalance.specs.FileBalance.{file_balanced_run}
use Rattle.host.specs.BalancedCalls.{trial_balanced_verdicts_answer, trial_balanced_verdicts_buffer}
use Rattle.host.proofs.Files.{file-tellable, file-told}
use Rattle.host.proofs.balanced.becardlarder_trial_balanced_verdicts.Goals as goal

pub tell-requires : goal.tell-requires
unfolding file_balanced_run trial_balanced_run
tell-requires c = file-tellable (λ t. balanced_rows (trial_rows t)) _ _ c.file_balanced_run.ensures

pub returns : goal.returns
unfolding file_balanced_run trial_balanced_run trial_balanced_verdicts_answer trial_balanced_verdicts_buffer
returns c =
    let the-clauses = (
    let a = c.args in
    file-told (λ t. balanced_rows (trial_rows t)) a.file.now _ c.file_balanced_run.ensures a.verdicts.now _ _ c.tell.ensures
    ) in
    record { value = the-clauses.0; verdicts_after = the-clauses.1 }
