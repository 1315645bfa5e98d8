-- Laws of the call that renders a report.
--   rendered-by                   what giving a report into a buffer answers and leaves there
--   rendered-within               the answered length is within the buffer
--   rendered-whole, balanced-whole     a buffer of `longest_report` places holds every text whole
use Prim.Native.Nat.{ℕ, ◌≤◌}
use native.Mathlib.Omega.{arith}
use mathlib.Core.Path.{◌≡◌}
use mathlib.Core.List.{List}
use lib.ListN.{length, take}
use Rattle.limits.specs.Limits.{longest_report}
use Rattle.text.specs.Renderings.{text_answer, after_text}
use Rattle.std.proofs.Common.{Result}
use Rattle.refusals.specs.Answers.{value_or}
use Rattle.refusals.specs.declared.refusal.Refusal.{Refusal}
use Rattle.text.proofs.Rendered.{text-by, text-within, text-whole}
use Rattle.rendering.specs.Reports.{report_of, balanced_report_of}
use Rattle.rendering.specs.Renderings.{rendering_of, after_rendering}
use Rattle.rendering.proofs.Lengths.{report-fits, balanced-report-fits}

pub rendered-by : (bytes buf : List ℕ) {ys out : List ℕ} {r : Result ℕ Refusal} → ys ≡ report_of bytes → (r ≡ text_answer ys (length buf)) × (out ≡ after_text ys buf) → (r ≡ rendering_of bytes (length buf)) × (out ≡ after_rendering bytes buf)
unfolding rendering_of after_rendering
rendered-by bytes buf = text-by buf

-- ---- what callers know of the answer

pub rendered-within : (bytes : List ℕ) (places : ℕ) → value_or 0 (rendering_of bytes places) ≤ places
unfolding rendering_of
rendered-within bytes places = text-within (report_of bytes) places

-- what a caller finds in a buffer of `longest_report` places is the whole text
pub rendered-whole : (bytes buf out : List ℕ) (r : Result ℕ Refusal) → longest_report ≤ length buf → r ≡ rendering_of bytes (length buf) → out ≡ after_rendering bytes buf → take (value_or 0 r) out ≡ report_of bytes
unfolding rendering_of after_rendering
rendered-whole bytes buf out r h p q = text-whole (report_of bytes) buf out r (omega (arith, report-fits bytes)) p q

-- the same of the balanced report
pub balanced-whole : (bytes buf out : List ℕ) (r : Result ℕ Refusal) → longest_report ≤ length buf → r ≡ text_answer (balanced_report_of bytes) (length buf) → out ≡ after_text (balanced_report_of bytes) buf → take (value_or 0 r) out ≡ balanced_report_of bytes
balanced-whole bytes buf out r h p q = text-whole (balanced_report_of bytes) buf out r (omega (arith, balanced-report-fits bytes)) p q
