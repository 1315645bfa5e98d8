-- `offers`: the page holds the lines so far.
use Rattle.std.proofs.Common.{◌≡◌, ◌++◌}
use Rattle.text.specs.Text.{lines_to}
use Rattle.rendering.specs.Reports.{offer_line_at}
use Rattle.rendering.proofs.lines.offers.Given as goal

abbrev pub invariant-loop-i : goal.invariant-loop-i
invariant-loop-i l = l.page.bytes ≡ l.initial.page.bytes ++ lines_to l.i (offer_line_at l.labels l.run)
