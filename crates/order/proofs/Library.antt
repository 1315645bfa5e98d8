-- The words of specs/, where the library has its own for them.
--   finite_is        of values that fit, `finite` is what `is_finite` tells
--   equal_eq         `equal` is what `==` tells
--   all_is           `all` is what an iterator's `all` tells
--   position_is      `first_at` is where `position` finds a member; first-position: with the length where it finds none
use Prim.Native.Nat.{suc, ◌+◌, ◌<◌}
use native.Mathlib.Omega.{arith}
use native.Mathlib.Decide.{dec_lt}
use mathlib.Core.Path.{◌≡◌, refl, sym, ap}
use mathlib.Core.Bool.{Bool, true, false, not, cond, ◌&&◌}
use mathlib.Core.List.{List, [], ◌∷◌}
use mathlib.Core.Logic.{◌⊎◌, inl, inr}
use lib.ListN.{length}
use lib.Dec.{T}
use lib.Ieee.{Float, nan, inf, fin, binary64, fits, eq}
use borrow.Author.Tests.{lt-ltb, le-ltb}
use Rattle.std.specs.Prelude.{position}
use Rattle.std.specs.Option.{unwrap_or}
use Rattle.std.specs.List.{list_all, position_or_len}
use Rattle.std.specs.Float.{float_is_finite}
use Rattle.std.proofs.lemmas.Float.{le_of_eq, eq_flip, lt-or-eq, lt_of_lt_of_le, lt_irrefl}
use Rattle.order.specs.Order.{finite, equal}
use Rattle.order.specs.Counting.{all}
use Rattle.order.specs.Lists.{first_at}
use Rattle.order.proofs.Firsts.{first-le}
use Rattle.order.proofs.Booleans.{same_test, T_true, and_left, and_right, and_both}

pub finite_is : (x : Float) → T (fits binary64 x) → float_is_finite x ≡ finite x
unfolding float_is_finite finite
finite_is nan t = refl
finite_is (inf s) t = refl
finite_is (fin s m e) t = sym (T_true (fits binary64 (fin s m e)) t)

pub equal_eq : (x y : Float) → eq x y ≡ equal x y
equal_eq x y = same_test (eq x y) (equal x y) (λ t. and_both _ _ (le_of_eq x y t) (le_of_eq y x (eq_flip x y t))) (λ t. go (and_right _ _ t) (lt-or-eq x y (and_left _ _ t)))
  where
    go : T (lib.Ieee.le y x) → T (lib.Ieee.lt x y) ⊎ T (eq x y) → T (eq x y)
    go b (inl h) = absurd (lt_irrefl x (lt_of_lt_of_le x y x h b))
    go b (inr h) = h

module _ {A : Type 0} (p : A → Bool) where
  pub all_is : (xs : List A) → list_all p xs ≡ all p xs
  unfolding all
  all_is [] = refl
  all_is (x ∷ xs) = ap (λ (b : Bool). p x && b) (all_is xs)

  pub position_is : (xs : List A) → position_or_len p xs ≡ first_at p xs
  unfolding first_at
  position_is [] = refl
  position_is (x ∷ xs) = go (p x) (position_is xs)
    where
      go : (b : Bool) → position_or_len p xs ≡ first_at p xs → cond (not b) (1 + position_or_len p xs) 0 ≡ cond b 0 (suc (first_at p xs))
      go true e = refl
      go false e = omega arith

  pub first-position : (xs : List A) → unwrap_or (position p xs) (length xs) ≡ first_at p xs
  first-position xs = go (dec_lt (position_or_len p xs) (length xs))
    where
      go : Dec (position_or_len p xs < length xs) → unwrap_or (position p xs) (length xs) ≡ first_at p xs
      go (yes h) = rw (lt-ltb (position_or_len p xs) (length xs) h) (position_is xs)
      go (no h) = rw (le-ltb (position_or_len p xs) (length xs) (omega (arith, h))) (omega (arith, h, position_is xs, first-le p xs))
