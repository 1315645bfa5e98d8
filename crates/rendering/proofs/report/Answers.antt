-- `report`: the text for the file's full run is its report.
use Rattle.trialrun.specs.FileRuns.{file_run}
use Rattle.trialrun.specs.TrialRuns.{trial_run}
use Rattle.rendering.specs.Reports.{report_of}
use Rattle.rendering.specs.Internal.{text_of, PrintableFile}
use Rattle.rendering.proofs.FileTexts.{text-by}
use Rattle.rendering.proofs.Lengths.{report-fits}
use Rattle.rendering.proofs.PrintableFiles.{plain-printable, printable-file}
use Rattle.rendering.proofs.Rendered.{rendered-by}
use mathlib.Core.Path.{ap, sym, subst, ◌∙◌}
use Rattle.std.proofs.Common.{IfOk}
use Rattle.rendering.proofs.report.Goals as goal

pub compose-requires-clause-printable : goal.compose-requires-clause-printable
unfolding file_run
compose-requires-clause-printable c = subst (λ r. IfOk r PrintableFile) (sym c.file_run.ensures) (printable-file trial_run plain-printable c.args.file.now)

pub compose-requires-clause-room : goal.compose-requires-clause-room
unfolding file_run report_of
compose-requires-clause-room c = rw (c.file_run.ensures, text-by trial_run c.args.file.now) (report-fits c.args.file.now)

pub returns : goal.returns
unfolding file_run report_of
returns c =
    let is = c.as_bytes.ensures.value ∙ c.deref.ensures.0 ∙ c.compose.ensures ∙ ap text_of c.file_run.ensures ∙ text-by trial_run c.args.file.now in
    let given = rendered-by c.args.file.now c.args.out.now is (c.give.ensures.value, c.give.ensures.out_after) in
    record { value = given.0; out_after = given.1 }
