-- Laws of the call that gives a text into a lent buffer.
--   text-short, text-done       each answer with its buffer: too short, and written
--   text-by                     the same text under another name
--   text-within                 the answered length is within the buffer
--   unwraps                     what a Result holds, in std's word and in ours
--   text-whole                  a buffer that is long enough holds the text whole
use Prim.Native.Nat.{ℕ, ◌≤◌, ◌<◌}
use native.Mathlib.Omega.{arith}
use mathlib.Core.Path.{◌≡◌, refl, sym, ap, ap₂, ◌∙◌}
use mathlib.Core.Bool.{Bool, true, false, cond}
use mathlib.Core.List.{List}
use lib.ListN.{length, take, drop}
use lib.Seq.{take_at}
use lib.Dec.{ltb}
use borrow.Author.Tests.{ltb-false, lt-ltb, le-ltb}
use Rattle.std.proofs.Common.{Result, Ok, Err}
use Rattle.std.specs.Result.{result_unwrap_or}
use Rattle.refusals.specs.Answers.{r12, outcome, value_or}
use Rattle.refusals.specs.declared.refusal.Refusal.{Refusal}
use Rattle.refusals.specs.Buffers.{written}
use Rattle.refusals.proofs.Buffers.{lent-short, lent-enough}
use Rattle.text.specs.Renderings.{text_answer, after_text}

module _ (ys buf : List ℕ) where
  abbrev Answered : Result ℕ Refusal → List ℕ → Type 0
  Answered r out = (r ≡ text_answer ys (length buf)) × (out ≡ after_text ys buf)

  by-room : (b : Bool) → ltb (length buf) (length ys) ≡ b → cond b (Err r12) (Ok (length ys)) ≡ text_answer ys (length buf)
  unfolding text_answer
  by-room b e = ap (λ (x : Bool). cond x (Err r12) (Ok (length ys))) (sym e)

  pub text-short : length buf < length ys → Answered (Err r12) buf
  unfolding after_text
  text-short h = (by-room true (lt-ltb (length buf) (length ys) h), lent-short (written ys buf) (λ _. buf) _ _ h)

  pub text-done : length ys ≤ length buf → (out : List ℕ) → out ≡ written ys buf → Answered (Ok (length ys)) out
  unfolding after_text
  text-done h out w = (by-room false (le-ltb (length buf) (length ys) h), w ∙ lent-enough (written ys buf) (λ _. buf) _ _ h)

pub text-by : (buf : List ℕ) {ys zs out : List ℕ} {r : Result ℕ Refusal} → ys ≡ zs → (r ≡ text_answer ys (length buf)) × (out ≡ after_text ys buf) → (r ≡ text_answer zs (length buf)) × (out ≡ after_text zs buf)
text-by buf e g = (g.0 ∙ ap (λ (xs : List ℕ). text_answer xs (length buf)) e, g.1 ∙ ap (λ (xs : List ℕ). after_text xs buf) e)

-- ---- what callers know of the answer

pub text-within : (ys : List ℕ) (places : ℕ) → value_or 0 (text_answer ys places) ≤ places
unfolding text_answer
text-within ys places = go (ltb places (length ys)) (ltb-false places (length ys))
  where
    go : (b : Bool) → (b ≡ false → length ys ≤ places) → value_or 0 (cond b (Err r12) (Ok (length ys))) ≤ places
    go true h = omega arith
    go false h = h refl

pub unwraps : (r : Result ℕ Refusal) → result_unwrap_or r 0 ≡ value_or 0 r
unwraps (Ok n) = refl
unwraps (Err e) = refl

pub text-whole : (ys buf out : List ℕ) (r : Result ℕ Refusal) → length ys ≤ length buf → r ≡ text_answer ys (length buf) → out ≡ after_text ys buf → take (value_or 0 r) out ≡ ys
text-whole ys buf out r h p q =
    let d = text-done ys buf h (written ys buf) refl in
    ap₂ (λ (x : Result ℕ Refusal) (l : List ℕ). take (value_or 0 x) l) (p ∙ sym d.0) (q ∙ sym d.1) ∙ take_at ys (drop (length ys) buf) (length ys) refl
