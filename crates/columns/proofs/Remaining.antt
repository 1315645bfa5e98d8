-- What remains of a set of live columns as columns are taken out of it, several at once or one by one.
--   remains           a column remains exactly where it is live and not rejected; remains-some: then something does
--   left_after        what remains after a step, and what it rejects, remained before it
--   left-none, left-all     with nothing rejected all remain
--   left-with         one more column rejected is one fewer that remains
--   nothing-new       joining no column changes nothing
--   without-..        a set without one of its columns: the others, that it is gone, and the size
--   with-sub          a set with one more column of L lies in L
use Prim.Native.Nat.{ℕ, zero, suc, ◌+◌, ◌<◌}
use native.Mathlib.Omega.{arith}
use mathlib.Core.Path.{◌≡◌, refl, sym, ap, subst}
use mathlib.Core.Logic.{◌↔◌}
use mathlib.Core.Bool.{Bool, true, false, not, ◌&&◌, ◌||◌}
use mathlib.Core.List.{[], ◌∷◌, map, zip_with}
use lib.ListN.{length, set, length-map}
use lib.Dec.{T}
use Rattle.order.specs.Counting.{bit, count}
use Rattle.order.proofs.Booleans.{and_left, and_right, and_both}
use Rattle.columns.specs.Columns.{Columns, size, ◌∪◌, ◌∩◌, ◌∖◌}
use Rattle.columns.proofs.Sets.{has, ◌⊆◌, none, more, has-∖, some-column, empty-size}

-- ---- what is left

module _ (live R : Columns) (h : length live ≡ length R) (j : ℕ) where
  pub remains : T (has (live ∖ R) j) ↔ (T (has live j) × (T (has R j) → ⊥))
  remains = (
    λ t. let u : T (has live j && not (has R j)) = subst (λ (b : Bool). T b) (has-∖ live R h j) t in (and_left (has live j) (not (has R j)) u, not-both (has R j) (and_right (has live j) (not (has R j)) u)),
    λ f. subst (λ (b : Bool). T b) (sym (has-∖ live R h j)) (and_both (has live j) (not (has R j)) f.0 (not-holds (has R j) f.1)),
  )
    where
      not-both : (b : Bool) → T (not b) → T b → ⊥
      not-both true t u = t
      not-both false t u = u

      not-holds : (b : Bool) → (T b → ⊥) → T (not b)
      not-holds true f = f tt
      not-holds false f = tt

  pub remains-some : T (has live j) → (T (has R j) → ⊥) → 0 < size (live ∖ R)
  remains-some t f = some-column (live ∖ R) j (remains.1 (t, f))

pub left_after : (live R O : Columns) → length R ≡ length O → size (live ∖ (R ∪ ((live ∖ R) ∩ O))) + size ((live ∖ R) ∩ O) ≡ size (live ∖ R)
unfolding ◌∖◌ ◌∪◌ ◌∩◌ zip_with size count
left_after [] R O h = refl
left_after (a ∷ live) [] O h = refl
left_after (a ∷ live) (r ∷ R) [] h = absurd (omega arith)
left_after (a ∷ live) (r ∷ R) (o ∷ O) h = omega (arith, after-bit a r o, left_after live R O (omega arith))
  where
    after-bit : (a r o : Bool) → bit (a && not (r || (a && not r && o))) + bit (a && not r && o) ≡ bit (a && not r)
    after-bit true true o = refl
    after-bit true false true = refl
    after-bit true false false = refl
    after-bit false true o = refl
    after-bit false false o = refl

pub left-none : (live R : Columns) → length live ≡ length R → size R ≡ 0 → live ∖ R ≡ live
unfolding size count ◌∖◌ zip_with
left-none [] R h z = refl
left-none (a ∷ live) [] h z = absurd (omega arith)
left-none (a ∷ live) (true ∷ R) h z = absurd (omega arith)
left-none (true ∷ live) (false ∷ R) h z = ap (λ (K : Columns). true ∷ K) (left-none live R (omega arith) (omega arith))
left-none (false ∷ live) (false ∷ R) h z = ap (λ (K : Columns). false ∷ K) (left-none live R (omega arith) (omega arith))

pub left-all : (live : Columns) → live ∖ map (λ _. false) live ≡ live
left-all live = left-none live (map (λ _. false) live) (sym (length-map live _)) (empty-size live)

pub left-with : (live R : Columns) (i : ℕ) → live ∖ set R i true ≡ set (live ∖ R) i false
unfolding ◌∖◌ zip_with
left-with [] R i = refl
left-with (a ∷ live) [] i = refl
left-with (true ∷ live) (r ∷ R) zero = refl
left-with (false ∷ live) (r ∷ R) zero = refl
left-with (a ∷ live) (r ∷ R) (suc i) = ap (λ (K : Columns). (a && not r) ∷ K) (left-with live R i)

pub nothing-new : (R N : Columns) → length R ≡ length N → size N ≡ 0 → R ∪ N ≡ R
unfolding size count ◌∪◌ zip_with
nothing-new [] N h z = refl
nothing-new (r ∷ R) [] h z = absurd (omega arith)
nothing-new (r ∷ R) (true ∷ N) h z = absurd (omega arith)
nothing-new (true ∷ R) (false ∷ N) h z = ap (λ (K : Columns). true ∷ K) (nothing-new R N (omega arith) (omega arith))
nothing-new (false ∷ R) (false ∷ N) h z = ap (λ (K : Columns). false ∷ K) (nothing-new R N (omega arith) (omega arith))

-- ---- one column

pub without-same : (A : Columns) (i l : ℕ) → (i ≡ l → ⊥) → has (set A i false) l ≡ has A l
without-same [] i l f = refl
without-same (b ∷ A) zero zero f = absurd (f refl)
without-same (b ∷ A) zero (suc l) f = refl
without-same (b ∷ A) (suc i) zero f = refl
without-same (b ∷ A) (suc i) (suc l) f = without-same A i l (λ q. f (ap suc q))

pub without_in : (A : Columns) (i l : ℕ) → T (has (set A i false) l) → T (has A l)
without_in [] i l t = t
without_in (b ∷ A) zero zero t = absurd t
without_in (b ∷ A) zero (suc l) t = t
without_in (b ∷ A) (suc i) zero t = t
without_in (b ∷ A) (suc i) (suc l) t = without_in A i l t

pub without_gone : (A : Columns) (i : ℕ) → T (has (set A i false) i) → ⊥
without_gone [] i t = t
without_gone (b ∷ A) zero t = t
without_gone (b ∷ A) (suc i) t = without_gone A i t

pub without-size : (A : Columns) (i : ℕ) → T (has A i) → suc (size (set A i false)) ≡ size A
unfolding size count
without-size [] i t = absurd t
without-size (true ∷ A) zero t = omega arith
without-size (false ∷ A) zero t = absurd t
without-size (b ∷ A) (suc i) t = omega (arith, without-size A i t)

pub with-sub : {R L : Columns} (i : ℕ) → R ⊆ L → T (has L i) → set R i true ⊆ L
with-sub i none t = none
with-sub zero (more f s) t = more (λ _. t) s
with-sub (suc i) (more f s) t = more f (with-sub i s t)
