-- `tell`: a buffer that is long enough holds the text whole.
use Rattle.std.proofs.Common.{◌∙◌}
use Rattle.text.proofs.Rendered.{text-within, text-whole, unwraps}
use Rattle.rendering.specs.Reports.{balanced_report_of}
use Rattle.balanced.proofs.BalancedTell.tell.Goals as goal

pub returns-clause-within : goal.returns-clause-within
returns-clause-within c = let r = c.balanced_report in rw (c.unwrap_or.ensures ∙ unwraps r.result, r.ensures.value, r.auto.out) (text-within _ _)

pub returns-clause-text : goal.returns-clause-text
returns-clause-text c h = let r = c.balanced_report in rw (c.unwrap_or.ensures ∙ unwraps r.result) (text-whole (balanced_report_of c.args.file.now) c.args.out.now r.new.out r.result h r.ensures.value r.ensures.out_after)
