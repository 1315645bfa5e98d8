-- Small laws of Booleans and tests that every layer uses.
use Prim.Native.Nat.{ℕ, zero, suc, ◌≤◌, ◌<◌}
use native.Mathlib.Omega.{arith}
use native.Mathlib.Decide.{dec_lt}
use mathlib.Core.Path.{◌≡◌, refl, sym, ap, subst, ◌∙◌}
use mathlib.Core.Logic.{◌↔◌}
use mathlib.Core.Bool.{Bool, true, false, not, cond, ◌&&◌, ◌||◌}
use lib.Dec.{T, ltb, leb}
use borrow.Author.Tests.{lt-ltb, le-ltb, le-leb, lt-leb}

-- two tests that hold together are one
pub same_test : (b c : Bool) → (T b → T c) → (T c → T b) → b ≡ c
same_test true true f g = refl
same_test true false f g = absurd (f tt)
same_test false true f g = absurd (g tt)
same_test false false f g = refl

pub T_true : (b : Bool) → T b → b ≡ true
T_true true t = refl
T_true false t = absurd t

pub T_false : (b : Bool) → (T b → ⊥) → b ≡ false
T_false true f = absurd (f tt)
T_false false f = refl

-- no test is both true and false
pub never : (b : Bool) → b ≡ false → T b → ⊥
never b e t = subst (λ (c : Bool). T c) e t

pub true-T : (b : Bool) → b ≡ true → T b
true-T b e = subst (λ (c : Bool). T c) (sym e) tt

pub and_left : (a b : Bool) → T (a && b) → T a
and_left true b t = tt
and_left false b t = absurd t

pub and_right : (a b : Bool) → T (a && b) → T b
and_right true b t = t
and_right false b t = absurd t

pub and_both : (a b : Bool) → T a → T b → T (a && b)
and_both true b s t = t
and_both false b s t = absurd s

pub or_left : (a b : Bool) → T a → T (a || b)
or_left true b t = tt
or_left false b t = absurd t

pub or_right : (a b : Bool) → T b → T (a || b)
or_right true b t = tt
or_right false b t = t

-- what does not hold is false; of two that do not hold together, the other
pub not_T : (b : Bool) → T (not b) → b ≡ false
not_T true t = absurd t
not_T false t = refl

pub and-other : (a b : Bool) → (a && b) ≡ false → T a → b ≡ false
and-other true b e t = e
and-other false b e t = absurd t

-- "not b, or c" is that c holds where b does
pub if-holds : (b c : Bool) → (T b → T c) → T (not b || c)
if-holds true c f = f tt
if-holds false c f = tt

pub then-holds : (b c : Bool) → T (not b || c) → T b → T c
then-holds true c t u = t
then-holds false c t u = absurd u

-- from "not below" to "at most", and from "not at most" to "below"
pub not-below : (a b : ℕ) → (a < b → ⊥) → b ≤ a
not-below a b f = omega (arith, f)

pub not_within : (a b : ℕ) → (a ≤ b → ⊥) → b < a
not_within a b f = omega (arith, f)

-- tests of one truth are equal
pub iff-ltb : (a b x y : ℕ) → (a < b) ↔ (x < y) → ltb a b ≡ ltb x y
iff-ltb a b x y h = go (dec_lt a b)
  where
    go : Dec (a < b) → ltb a b ≡ ltb x y
    go (yes g) = lt-ltb a b g ∙ sym (lt-ltb x y (h.0 g))
    go (no g) = le-ltb a b (omega (arith, g)) ∙ sym (le-ltb x y (not-below x y (λ q. g (h.1 q))))

pub leb-not : (a b : ℕ) → leb a b ≡ not (ltb b a)
leb-not a b = go (dec_lt b a)
  where
    go : Dec (b < a) → leb a b ≡ not (ltb b a)
    go (yes g) = rw (lt-leb a b g, lt-ltb b a g)
    go (no g) = rw (le-leb a b (omega (arith, g)), le-ltb b a (omega (arith, g)))

-- ---- conditions that are judged one after the other

-- of several joined by "or", the first that holds decides, and one that does not hold is passed
pub or-holds : (a b : Bool) → a ≡ true → true ≡ (a || b)
or-holds a b h = ap (λ (x : Bool). x || b) (sym h)

pub or-passes : (a b r : Bool) → a ≡ false → r ≡ b → r ≡ (a || b)
or-passes a b r h e = e ∙ ap (λ (x : Bool). x || b) (sym h)

-- of two joined by "and", the first that does not hold decides
pub and-holds : (a b : Bool) → a ≡ true → b ≡ (a && b)
and-holds a b h = ap (λ (x : Bool). x && b) (sym h)

pub and-fails : (a b : Bool) → a ≡ false → false ≡ (a && b)
and-fails a b h = ap (λ (x : Bool). x && b) (sym h)

-- of several with numbers likewise
pub holds : (b : Bool) (n r : ℕ) → b ≡ true → n ≡ cond b n r
holds b n r h = ap (λ (x : Bool). cond x n r) (sym h)

pub passes : (b : Bool) (n r x : ℕ) → b ≡ false → x ≡ r → x ≡ cond b n r
passes b n r x h e = e ∙ ap (λ (c : Bool). cond c n r) (sym h)

pub not_yes : (b : Bool) → b ≡ false → not b ≡ true
not_yes b h = ap not h

pub not-no : (b : Bool) → b ≡ true → not b ≡ false
not-no b h = ap not h

-- ---- digits of two

pub digit-cases : (P : ℕ → Type 0) → P 0 → P 1 → (n : ℕ) → n < 2 → P n
digit-cases P a b zero h = a
digit-cases P a b (suc zero) h = b
digit-cases P a b (suc (suc n)) h = absurd (omega arith)
