-- A text for a lent byte buffer. Definitions only.
--   text_checks ys places    what the call is refused for: 12, where the text ys needs more places
--   text_answer ys places    what it answers: the length of the text, or the refusal
--   after_text ys buf        what the buffer holds afterwards: the text in its first places, or unchanged where the call is refused
use Rattle.std.specs.Prelude.{ℕ, List, length, Result}
use Rattle.refusals.specs.Answers.{Checks, outcome, afterwards}
use Rattle.refusals.specs.declared.refusal.Refusal.{Refusal}
use Rattle.refusals.specs.Buffers.{too_short, written}

abbrev pub text_checks : List ℕ → ℕ → Checks
text_checks ys places = too_short places (length ys)

unfoldable pub text_answer : List ℕ → ℕ → Result ℕ Refusal
text_answer ys places = outcome (text_checks ys places) (length ys)

unfoldable pub after_text : List ℕ → List ℕ → List ℕ
after_text ys buf = afterwards (text_checks ys (length buf)) (written ys buf) buf
