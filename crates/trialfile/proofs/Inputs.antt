-- What is said of a file takes no notice of what comes after one byte more than the longest file; and what is known of the labels of an accepted one.
--   too_long       a longer input is refused by 1
--   file-cut, outcome_cut     what is answered for the first `input_room` bytes is what is answered for them all
--   printed        what it is for an offer to pass 5
--   digits-few     the printed digits of an accepted trial's offers are few
use Prim.Native.Nat.{ℕ, ◌%◌, ◌^◌, ◌≤◌, ◌<◌}
use native.Mathlib.Omega.{arith}
use native.Mathlib.Decide.{dec_le}
use native.Mathlib.Nat.{pow-le-pow_right, zero-lt-suc}
use mathlib.Core.Path.{◌≡◌, refl, sym, ap, ◌∙◌}
use mathlib.Core.Bool.{Bool, true, false, false≢true, cond, not, ◌||◌}
use mathlib.Core.List.{List}
use lib.ListN.{length, get_or, take}
use lib.Seq.{take_all, length-take-le, get_or-take}
use lib.Dec.{leb, ltb, eqb}
use borrow.Author.Tests.{lt-ltb, leb-false}
use Rattle.limits.specs.Limits.{digits_most, longest_file, input_room}
use Rattle.refusals.specs.Answers.{answer, outcome, first_refusal}
use Rattle.std.proofs.Common.{Result, Err}
use Rattle.refusals.specs.declared.refusal.Refusal.{Refusal}
use Rattle.refusals.specs.declared.refusal.Refusal.TheVariants.{FileLength}
use Rattle.refusals.specs.Limits.{outside}
use Rattle.refusals.proofs.Answers.{refused}
use Rattle.refusals.proofs.Limits.{or-none, inside}
use Rattle.trial.specs.Record.{setting_of}
use Rattle.trial.specs.Refusals.{bad_digits}
use Rattle.trial.specs.declared.Trial.{Trial}
use Rattle.trial.proofs.Accepted.{Accepted}
use Rattle.words.specs.Words.{words_of}
use Rattle.trialfile.specs.Files.{bad_length, place_checks, file_checks, file_refusal}

pub too_long : (bytes : List ℕ) → longest_file < length bytes → file_refusal bytes ≡ 1
unfolding file_refusal first_refusal bad_length
too_long bytes h = go (eqb (length bytes) 0) (not (eqb (length bytes % 4) 0)) (ltb longest_file (length bytes)) (lt-ltb longest_file (length bytes) h)
  where
    go : (x y z : Bool) → z ≡ true → cond (x || (y || z)) 1 (first_refusal (place_checks (words_of bytes))) ≡ 1
    go true y z e = refl
    go false true z e = refl
    go false false true e = refl
    go false false false e = absurd (false≢true e)

-- whatever is made of a file's words
module _ {A : Type 0} (done : List ℕ → A) (refusing : ℕ → A) where
  abbrev said : List ℕ → A
  said bytes = answer (file_checks bytes) (done (words_of bytes)) refusing

  said-long : (bytes : List ℕ) → longest_file < length bytes → said bytes ≡ refusing 1
  unfolding file_refusal
  said-long bytes h = sym (refused (done (words_of bytes)) refusing (file_checks bytes) 1 (sym (too_long bytes h)) (λ z. omega arith))

  pub file-cut : (bytes : List ℕ) → said (take input_room bytes) ≡ said bytes
  file-cut bytes = go (dec_le (length bytes) input_room)
    where
      go : Dec (length bytes ≤ input_room) → said (take input_room bytes) ≡ said bytes
      go (yes h) = ap said (take_all input_room bytes h)
      go (no h) = said-long (take input_room bytes) (omega (arith, length-take-le input_room bytes (omega (arith, h)))) ∙ sym (said-long bytes (omega (arith, h)))

module _ {A : Type 0} (done : List ℕ → A) where
  abbrev told : List ℕ → Result A Refusal
  told bytes = outcome (file_checks bytes) (done (words_of bytes))

  told-long : (bytes : List ℕ) → longest_file < length bytes → told bytes ≡ Err FileLength
  unfolding bad_length file_checks
  told-long bytes h = go (eqb (length bytes) 0) (not (eqb (length bytes % 4) 0)) (ltb longest_file (length bytes)) (lt-ltb longest_file (length bytes) h)
    where
      go : (x y z : Bool) → z ≡ true → cond (x || (y || z)) (Err FileLength) (outcome (place_checks (words_of bytes)) (done (words_of bytes))) ≡ Err FileLength
      go true y z e = refl
      go false true z e = refl
      go false false true e = refl
      go false false false e = absurd (false≢true e)

  pub outcome_cut : (bytes : List ℕ) → told (take input_room bytes) ≡ told bytes
  outcome_cut bytes = go (dec_le (length bytes) input_room)
    where
      go : Dec (length bytes ≤ input_room) → told (take input_room bytes) ≡ told bytes
      go (yes h) = ap told (take_all input_room bytes h)
      go (no h) = told-long (take input_room bytes) (omega (arith, length-take-le input_room bytes (omega (arith, h)))) ∙ sym (told-long bytes (omega (arith, h)))

pub printed : (c d : ℕ) → bad_digits c d ≡ false → (c < 16777216) × (d ≤ digits_most)
unfolding bad_digits
printed c d h =
    let f = or-none (outside 1 digits_most d) (leb (10 ^ d) c) h in
    let most : d ≤ digits_most = (inside 1 digits_most d f.0).1 in
    let ten : 10 ^ d ≤ 10 ^ digits_most = pow-le-pow_right (zero-lt-suc 9) most in
    (omega (arith, leb-false (10 ^ d) c f.1), most)

pub digits-few : (t : Trial) → Accepted t → (i : ℕ) → i < t.shape.offers → get_or t.labels.digits i 0 ≤ digits_most
digits-few t acc i l = omega (arith, get_or-take t.shape.offers t.labels.digits i 0 l, (printed (get_or (setting_of t).codes i 0) (get_or (setting_of t).digits i 0) (acc.labels-pass i l).0).1)
