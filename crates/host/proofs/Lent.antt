-- Laws of every call: conditions, and then a lent buffer that is too short.
--   Given                    a result, a buffer and something else that is lent are what a call gives
--   given_by                 they are, where the call is refused by n
--   passed, taken            where an answer is accepted no condition holds, and it is the one that is accepted
--   part                     the first n of 32 members are so many
--   given-refused, given-short, given-done     they are, where the conditions before the buffer refuse, where 12 does, and where the call is accepted
--   cramped-number, cramped-refused     a table with no place for each column: the call is refused as one with no work place is, and that one always is
use Prim.Native.Nat.{ℕ, zero, suc, ◌+◌, ◌≤◌, ◌<◌}
use native.Mathlib.Omega.{arith}
use native.Mathlib.Decide.{dec_le}
use mathlib.Core.Path.{◌≡◌, refl, sym, ◌∙◌}
use mathlib.Core.List.{List, ◌++◌}
use lib.ListN.{length, take, length-take}
use borrow.Author.Tests.{ltb-false}
use Rattle.std.proofs.Common.{Ok, Err}
use Rattle.refusals.specs.Answers.{Checks, number, answer, outcome, first_refusal, afterwards}
use Rattle.refusals.specs.declared.refusal.Refusal.{Refusal}
use Rattle.refusals.specs.Buffers.{too_short, written}
use Rattle.refusals.proofs.Answers.{accepted, refused, number-some, first-decides, none-holds, none_first, both-pass, outcome-ok, ok-none, outcome-first}
use Rattle.refusals.proofs.Buffers.{roomy, short, lent-passes}

pub number-refuses : (r : Refusal) → number r ≡ 0 → ⊥
number-refuses r z = omega (arith, number-some r)

module _ {A : Type 0} (cs : Checks) (a : A) where
  pub refused-by : (r : Refusal) → Err r ≡ outcome cs a → number r ≡ first_refusal cs
  refused-by r e = sym (outcome-first cs a r (sym e))

  module _ (x : A) (e : Ok x ≡ outcome cs a) where
    pub passed : first_refusal cs ≡ 0
    passed = none_first cs (ok-none cs a x (sym e))

    pub taken : x ≡ a
    taken = let k = outcome-ok cs a (ok-none cs a x (sym e)) in cc

-- the first n of 32 members
pub part : {X : Type 0} (n : ℕ) (xs : List X) → n ≤ 32 → length xs ≡ 32 → (n ≤ length xs) × (n ≡ length (take n xs))
part n xs h e = (omega arith, simp length-take (omega arith))

-- ---- the answers: the result v, and xs in the buffer; what else is lent holds `new`

module _ {A : Type 0} (cs : Checks) (v : ℕ) (xs buf : List ℕ) (new old : A) where
  abbrev pub Given : ℕ → List ℕ → A → Type 0
  Given r out x = (r ≡ answer cs v (λ n. 100 + n)) × (out ≡ afterwards cs (written xs buf) buf) × (x ≡ afterwards cs new old)

  pub given_by : (n : ℕ) → n ≡ first_refusal cs → (n ≡ 0 → ⊥) → Given (100 + n) buf old
  given_by n e f = (refused v (λ n. 100 + n) cs n e f, refused (written xs buf) (λ _. buf) cs n e f, refused new (λ _. old) cs n e f)

module _ {A : Type 0} (own : Checks) (needed v : ℕ) (xs buf : List ℕ) (new old : A) where
  abbrev checks : Checks
  checks = own ++ too_short (length buf) needed

  pub given-refused : (r : Refusal) → number r ≡ first_refusal own → Given checks v xs buf new old (100 + number r) buf old
  given-refused r e = given_by checks v xs buf new old (number r) (sym (first-decides own (too_short (length buf) needed) (number r) e (number-refuses r))) (number-refuses r)

  module _ (z : first_refusal own ≡ 0) where
    pub given-short : length buf < needed → Given checks v xs buf new old 112 buf old
    given-short h = given_by checks v xs buf new old 12 (short own (length buf) needed (sym z) h) (λ n. omega arith)

    pub given-done : needed ≤ length buf → (r : ℕ) → r ≡ v → (out : List ℕ) → out ≡ written xs buf → (x : A) → x ≡ new → Given checks v xs buf new old r out x
    given-done h r p out q x w =
        let g : 0 ≡ first_refusal checks = sym (lent-passes own (length buf) needed z h) in
        (p ∙ accepted v (λ n. 100 + n) checks 0 g refl, q ∙ accepted (written xs buf) (λ _. buf) checks 0 g refl, w ∙ accepted new (λ _. old) checks 0 g refl)

-- ---- a table: 12 for the work buffer, then for the other

module _ (own : Checks) (rows : ℕ) (some : first_refusal own ≡ 0 → 0 < rows) where
  pub cramped-refused : first_refusal (own ++ too_short 0 rows) ≡ 0 → ⊥
  cramped-refused z =
      let b = both-pass own (too_short 0 rows) z in
      omega (arith, some b.0, ltb-false 0 rows (none-holds (too_short 0 rows) b.1).0)

  pub cramped-number : (columns work places : ℕ) → places < columns → first_refusal (own ++ too_short 0 rows) ≡ first_refusal ((own ++ too_short work rows) ++ too_short places columns)
  unfolding first_refusal
  cramped-number columns work places h = go (first_refusal own) refl
    where
      either : 0 ≡ first_refusal own → Dec (rows ≤ work) → 12 ≡ first_refusal ((own ++ too_short work rows) ++ too_short places columns)
      either e (yes l) = short (own ++ too_short work rows) places columns (e ∙ roomy own work rows 0 (λ n. n) l) h
      either e (no l) = sym (first-decides (own ++ too_short work rows) (too_short places columns) 12 (short own work rows e (omega (arith, l))) (λ z. omega arith))

      go : (n : ℕ) → n ≡ first_refusal own → first_refusal (own ++ too_short 0 rows) ≡ first_refusal ((own ++ too_short work rows) ++ too_short places columns)
      go zero e = sym (short own 0 rows e (some (sym e))) ∙ either e (dec_le rows work)
      go (suc n) e =
          let f : suc n ≡ 0 → ⊥ = λ z. omega arith in
          first-decides own (too_short 0 rows) (suc n) e f
          ∙ sym (first-decides (own ++ too_short work rows) (too_short places columns) (suc n) (sym (first-decides own (too_short work rows) (suc n) e f)) f)
