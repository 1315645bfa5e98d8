-- `word`: the verdict is the one of the arm.
use Rattle.std.proofs.Common.{ap, sym}
use Rattle.text.specs.Ascii.{ascii}
use Rattle.rendering.specs.Reports.{verdict_word}
use Rattle.rendering.proofs.lines.word.Goals as goal

pub returns-in-Rejected : goal.returns-in-Rejected
returns-in-Rejected c = ap (λ v. ascii (verdict_word v)) (sym c.in-Rejected.is)

pub returns-in-Kept : goal.returns-in-Kept
returns-in-Kept c = ap (λ v. ascii (verdict_word v)) (sym c.in-Kept.is)

pub returns-in-Aside : goal.returns-in-Aside
returns-in-Aside c = ap (λ v. ascii (verdict_word v)) (sym c.in-Aside.is)
