-- `tell`: a buffer that is long enough holds the text whole.
use Rattle.std.proofs.Common.{◌∙◌}
use Rattle.text.proofs.Rendered.{text-whole, unwraps}
use Rattle.rendering.specs.Reports.{report_of}
use Rattle.rendering.specs.Renderings.{rendering_of, after_rendering}
use Rattle.rendering.proofs.Rendered.{rendered-within}
use Rattle.report.proofs.ReportTell.tell.Goals as goal

pub returns-clause-within : goal.returns-clause-within
returns-clause-within c = let r = c.report in rw (c.unwrap_or.ensures ∙ unwraps r.result, r.ensures.value, r.auto.out) (rendered-within _ _)

pub returns-clause-text : goal.returns-clause-text
unfolding rendering_of after_rendering
returns-clause-text c h = let r = c.report in rw (c.unwrap_or.ensures ∙ unwraps r.result) (text-whole (report_of c.args.file.now) c.args.out.now r.new.out r.result h r.ensures.value r.ensures.out_after)
