-- `steps`: the page holds the lines so far.
use Rattle.std.proofs.Common.{◌≡◌, ◌++◌}
use Rattle.text.specs.Text.{lines_to}
use Rattle.rendering.specs.Reports.{step_line_at}
use Rattle.rendering.proofs.lines.steps.Given as goal

abbrev pub invariant-loop-m : goal.invariant-loop-m
invariant-loop-m l = l.page.bytes ≡ l.initial.page.bytes ++ lines_to l.m-index (step_line_at l.fn.labels l.fn.run)
