-- `balanced_report`: the text for the file's balanced full run is its balanced report.
use Rattle.trialbalance.specs.FileBalance.{file_balanced_run}
use Rattle.trialbalance.specs.TrialBalance.{trial_balanced_run}
use Rattle.rendering.specs.Reports.{balanced_report_of}
use Rattle.rendering.specs.Internal.{text_of, PrintableFile}
use Rattle.rendering.proofs.FileTexts.{text-by}
use Rattle.rendering.proofs.Lengths.{balanced-report-fits}
use Rattle.rendering.proofs.PrintableFiles.{balanced-printable, printable-file}
use Rattle.text.proofs.Rendered as texts
use mathlib.Core.Path.{ap, sym, subst, ◌∙◌}
use Rattle.std.proofs.Common.{IfOk}
use Rattle.rendering.proofs.balanced_report.Goals as goal

pub compose-requires-clause-printable : goal.compose-requires-clause-printable
unfolding file_balanced_run
compose-requires-clause-printable c = subst (λ r. IfOk r PrintableFile) (sym c.file_balanced_run.ensures) (printable-file trial_balanced_run balanced-printable c.args.file.now)

pub compose-requires-clause-room : goal.compose-requires-clause-room
unfolding file_balanced_run balanced_report_of
compose-requires-clause-room c = rw (c.file_balanced_run.ensures, text-by trial_balanced_run c.args.file.now) (balanced-report-fits c.args.file.now)

pub returns : goal.returns
unfolding file_balanced_run balanced_report_of
returns c =
    let is = c.as_bytes.ensures.value ∙ c.deref.ensures.0 ∙ c.compose.ensures ∙ ap text_of c.file_balanced_run.ensures ∙ text-by trial_balanced_run c.args.file.now in
    let given = texts.text-by c.args.out.now is (c.give.ensures.value, c.give.ensures.out_after) in
    record { value = given.0; out_after = given.1 }
