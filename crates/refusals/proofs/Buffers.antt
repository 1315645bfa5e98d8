-- A lent buffer: the condition on its places, and what it holds while its first places are written.
--   lent-short, lent-enough     it has too few places, and it has enough
--   roomy, short       after other conditions: it has enough, and those decide; it has too few, and they let the call by; lent-passes: it has enough, and nothing holds
--   filled f X g w     the first g places hold f of the first g members of X
--   filled-start, filled-turn, filled-end     before the first, one more, and after the last
use Prim.Native.Nat.{ℕ, suc, ◌+◌, ◌≤◌, ◌<◌}
use native.Mathlib.Omega.{arith}
use native.Mathlib.Numerals.{add-one}
use mathlib.Core.Path.{◌≡◌, refl, sym, ap, ap₂, ◌∙◌}
use mathlib.Core.Bool.{Bool, cond}
use mathlib.Core.List.{List, [], ◌∷◌, ◌++◌, map, append_assoc}
use lib.ListN.{length, get_or, take, drop, set, length-map}
use lib.Seq.{take-suc, drop-cons, set_at, take_all, length-take-le}
use borrow.Author.Tests.{lt-ltb, le-ltb}
use Rattle.order.proofs.Lists.{map_more}
use Rattle.refusals.specs.Answers.{Checks, answer, first_refusal}
use Rattle.refusals.specs.Buffers.{too_short, written}
use Rattle.refusals.proofs.Answers.{answer-append, first_passes}

module _ {A : Type 0} (done : A) (refusing : ℕ → A) (places needed : ℕ) where
  pub lent-short : places < needed → refusing 12 ≡ answer (too_short places needed) done refusing
  unfolding answer
  lent-short h = sym (ap (λ (b : Bool). cond b (refusing 12) done) (lt-ltb places needed h))

  pub lent-enough : needed ≤ places → done ≡ answer (too_short places needed) done refusing
  unfolding answer
  lent-enough h = sym (ap (λ (b : Bool). cond b (refusing 12) done) (le-ltb places needed h))

-- ---- after other conditions

module _ (cs : Checks) (places needed : ℕ) where
  pub roomy : {A : Type 0} (done : A) (refusing : ℕ → A) → needed ≤ places → answer cs done refusing ≡ answer (cs ++ too_short places needed) done refusing
  roomy done refusing h = ap (λ x. answer cs x refusing) (lent-enough done refusing places needed h) ∙ sym (answer-append cs (too_short places needed) done refusing)

  pub short : 0 ≡ first_refusal cs → places < needed → 12 ≡ first_refusal (cs ++ too_short places needed)
  unfolding first_refusal
  short e h = lent-short 0 (λ n. n) places needed h ∙ sym (first_passes cs (too_short places needed) 0 e refl)

  pub lent-passes : first_refusal cs ≡ 0 → needed ≤ places → first_refusal (cs ++ too_short places needed) ≡ 0
  unfolding first_refusal
  lent-passes ok h = sym (roomy 0 (λ n. n) h) ∙ ok

-- ---- while it is written

-- the buffer once g values are written
pub filled : {A B : Type 0} → (A → B) → List A → ℕ → List B → List B
filled f X g w = map f (take g X) ++ drop g w

module _ {A B : Type 0} (f : A → B) (X : List A) (w₀ : List B) (d : A) where
  pub filled-start : w₀ ≡ filled f X 0 w₀
  unfolding filled
  filled-start = refl

  pub filled-turn : (g : ℕ) (w : List B) (v : B) (e : B) → g < length X → g < length w₀ → w ≡ filled f X g w₀ → v ≡ f (get_or X g d) → set w g v ≡ filled f X (g + 1) w₀
  unfolding filled
  filled-turn g w v e h l p q =
      ap (λ (u : List B). set u g v) (p ∙ ap (λ (u : List B). map f (take g X) ++ u) (drop-cons w₀ g e l))
      ∙ set_at (map f (take g X)) (get_or w₀ g e) (drop (suc g) w₀) v g (length-map (take g X) f ∙ length-take-le g X (omega arith))
      ∙ sym (append_assoc (map f (take g X)) (v ∷ []) (drop (suc g) w₀))
      ∙ ap₂ (λ (u : List B) (n : ℕ). u ++ drop n w₀) (ap (λ (y : B). map f (take g X) ++ (y ∷ [])) q ∙ sym (map_more f (take g X) (get_or X g d)) ∙ ap (map f) (sym (take-suc X g d h)) ∙ ap (λ (n : ℕ). map f (take n X)) (sym (add-one g))) (sym (add-one g))

  pub filled-end : (g : ℕ) (w : List B) → length X ≤ g → g ≤ length X → w ≡ filled f X g w₀ → w ≡ written (map f X) w₀
  unfolding filled
  filled-end g w h l p = p ∙ ap₂ (λ (u : List A) (n : ℕ). map f u ++ drop n w₀) (take_all g X h) (let e : g ≡ length (map f X) = omega (arith, length-map X f) in e)
