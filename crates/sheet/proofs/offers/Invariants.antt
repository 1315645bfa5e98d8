-- `offers`: the page holds the lines so far.
use Rattle.std.proofs.Common.{◌≡◌, ◌++◌}
use Rattle.text.specs.Text.{lines_to}
use Rattle.sheet.specs.Sheets.{sheet_line_at}
use Rattle.sheet.proofs.offers.Given as goal

abbrev pub invariant-loop-i : goal.invariant-loop-i
invariant-loop-i l = l.page.bytes ≡ l.initial.page.bytes ++ lines_to l.i (sheet_line_at l.labels l.a)
