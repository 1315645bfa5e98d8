-- Rendering a report into a lent byte buffer: the call of a text (text/specs/Renderings.antt), at the report of a file. Definitions only.
--   render_checks bytes places   what the call is refused for: 12, where the text needs more places; a file's own refusal is part of the text
--   render_refusal bytes places  the number of the first that holds, or 0
--   rendering_of bytes places    what rendering answers: the length of the text, or the refusal
--   after_rendering bytes buf    what the buffer holds afterwards: the text in its first places, or unchanged where the call is refused
use Rattle.std.specs.Prelude.{ℕ, List, Result}
use Rattle.refusals.specs.declared.refusal.Refusal.{Refusal}
use Rattle.refusals.specs.Answers.{Checks, first_refusal}
use Rattle.text.specs.Renderings.{text_checks, text_answer, after_text}
use Rattle.rendering.specs.Reports.{report_of}

abbrev pub render_checks : List ℕ → ℕ → Checks
render_checks bytes places = text_checks (report_of bytes) places

unfoldable pub render_refusal : List ℕ → ℕ → ℕ
unfolding first_refusal report_of
render_refusal bytes places = first_refusal (render_checks bytes places)

unfoldable pub rendering_of : List ℕ → ℕ → Result ℕ Refusal
unfolding text_answer report_of
rendering_of bytes places = text_answer (report_of bytes) places

unfoldable pub after_rendering : List ℕ → List ℕ → List ℕ
unfolding after_text report_of
after_rendering bytes buf = after_text (report_of bytes) buf
