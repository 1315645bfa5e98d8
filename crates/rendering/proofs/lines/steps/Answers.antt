-- `steps`: one line more with each record.
use Rattle.std.proofs.Common.{List, ℕ, ◌+◌, ◌≤◌, ◌++◌, ◌∙◌, length, ap, sym, subst}
use Rattle.limits.specs.Limits.{longest_report}
use Rattle.text.proofs.Lines.{lines_none, lines_more, lines_room}
use Rattle.rendering.specs.Reports.{step_line_at}
use Rattle.rendering.proofs.ReportLines.{step-there, step_line-is}
use Rattle.rendering.proofs.lines.steps.Goals as goal

pub loop-m-init : goal.loop-m-init
loop-m-init c = lines_none _ _

pub step-requires-clause-room : goal.step-requires-clause-room
step-requires-clause-room c =
    let l = c.args.labels in
    let r = c.args.run in
    subst (λ (line : List ℕ). length c.loop-m.page.bytes + length line ≤ longest_report) (sym (step_line-is l r _ c.loop-m-test.true))
    (lines_room (step_line_at l r) _ _ _ c.loop-m.invariant _ _ (step-there l r _ c.loop-m-test.true) c.requires.room)

pub loop-m-preserved : goal.loop-m-preserved
loop-m-preserved c =
    let l = c.args.labels in
    let r = c.args.run in
    lines_more (step_line_at l r) _ _ _ c.loop-m.invariant _ (c.step.ensures ∙ ap (λ (line : List ℕ). c.loop-m.page.bytes ++ line) (step_line-is l r _ c.loop-m-test.true))
