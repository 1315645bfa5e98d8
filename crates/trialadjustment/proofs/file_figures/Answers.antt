-- `file_figures`: read, and where nothing is refused the figures of the trial are told.
use Rattle.std.proofs.Common.{◌≡◌, sym}
use Rattle.std.proofs.lemmas.Result.{err_from_is_err_and}
use Rattle.adjustment.specs.Answers.{accepted_figures}
use Rattle.adjustment.specs.declared.Adjusted.{Adjusted}
use Rattle.trial.specs.Exchange.{row_total}
use Rattle.trial.specs.declared.Trial.{Trial}
use Rattle.trialrun.proofs.Files.{file-refused, never-turned, file-done}
use Rattle.trialadjustment.specs.TrialFigures.{trial_figures, trial_figures_answer}
use Rattle.trialadjustment.specs.FileFigures.{file_figures}
use Rattle.trialadjustment.specs.declared.FileFigures.{FileFigures}
use Rattle.trialadjustment.proofs.file_figures.Goals as goal

abbrev pair_of : Trial → Adjusted → FileFigures
pair_of t f = record { trial = t; adjusted = f }

abbrev done : Trial → Adjusted
done t = accepted_figures (row_total t) (trial_figures t)

pub returns-in_err-trial : goal.returns-in_err-trial
unfolding file_figures
returns-in_err-trial c =
    let p = err_from_is_err_and c.from_residual.result c.from_residual.ensures.1 in
    rw (p.1, p.2) (file-refused c.args.file.now pair_of done _ (sym c.in_err-trial.ensures))

-- nothing turns away the trial of an accepted file
pub returns-in_err-adjusted : goal.returns-in_err-adjusted
unfolding trial_figures_answer
returns-in_err-adjusted c = absurd (never-turned c.args.file.now pair_of done _ (sym c.in_ok-trial.ensures) _ (sym c.in_err-adjusted.ensures.value))

pub returns : goal.returns
unfolding file_figures trial_figures_answer
returns c = file-done c.args.file.now pair_of done _ (sym c.in_ok-trial.ensures) _ (sym c.in_ok-adjusted.ensures.value)
