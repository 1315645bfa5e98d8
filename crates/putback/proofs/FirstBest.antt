-- The set that is held is the first that gives the best value, whatever the walk started from below it.
--   key_place m Ks   the place of the first set whose value has the key m
--   better-first, first-there     where the best value is above that of the start, it is given by the first set that has its key, and there is one
--   same_start       then the start makes no difference
use Prim.Native.Nat.{ℕ, suc, ◌≤◌, ◌<◌}
use native.Mathlib.Omega.{arith}
use mathlib.Core.Path.{◌≡◌, refl, sym, ap, ◌∙◌, subst}
use mathlib.Core.Logic.{◌⊎◌, inl, inr}
use mathlib.Core.Bool.{Bool, true, false, not, cond}
use mathlib.Core.List.{List, [], ◌∷◌, map}
use lib.ListN.{length, get_or, length-map}
use lib.Dec.{T, ltb, leb, eqb, ltb→lt, leb→le}
use lib.Ieee.{Float, inf}
use borrow.Author.Tests.{lt-ltb, le-ltb, eqb-true, eqb-false}
use Rattle.order.specs.Order.{finite, low, smaller, with_plus_zero}
use Rattle.order.specs.Counting.{count, all}
use Rattle.order.specs.Lists.{first_at}
use Rattle.order.proofs.Booleans.{and_left, and_right, true-T, leb-not}
use Rattle.order.proofs.Counts.{none-counted, count_map, all-le}
use Rattle.order.proofs.Infinities.{finite-low, smaller-low}
use Rattle.order.proofs.Keys.{key}
use Rattle.columns.specs.Columns.{Columns, mask_of}
use Rattle.putback.specs.Internal.{better}
use Rattle.putback.specs.declared.walk.Best.{Best}
use Rattle.putback.proofs.Better.{better-stays, better-value}
use Rattle.putback.proofs.PutBackValue.{best-least, best-holds, all-finite, same-best, lowest-under}

module _ (f : Columns → Float) (fin : (K : Columns) → T (finite (f K))) where
  -- the place of the first set whose value has a key
  abbrev pub key_place : ℕ → List Columns → ℕ
  key_place m Ks = first_at (λ K. eqb m (key (f K))) Ks

  -- a set with its value
  abbrev given : Columns → Best
  given K = record { value = f K; set = mask_of K }

  below : (b : Best) (K : Columns) → T (low b.value) → smaller b.value (f K) ≡ ltb (key b.value) (key (f K))
  below b K l = smaller-low b.value (f K) l (finite-low (f K) (fin K))

  not-above : (K L : Columns) → key (f L) ≤ key (f K) → T (not (smaller (f K) (f L)))
  not-above K L h = subst (λ (d : Bool). T (not d)) (sym (below (given K) L (finite-low (f K) (fin K)) ∙ le-ltb (key (f K)) (key (f L)) h)) tt

  better-at : (m : ℕ) (b : Best) (Ks : List Columns) → T (low b.value) → key b.value < m → T (all (λ K. leb (key (f K)) m) Ks) → key_place m Ks < length Ks → better f b Ks ≡ given (get_or Ks (key_place m Ks) [])
  unfolding better first_at all
  better-at m b [] l h t i = absurd (omega arith)
  better-at m b (K ∷ Ks) l h t i = go (eqb m (key (f K))) refl (λ b' l' h' i'. better-at m b' Ks l' h' most i') i
    where
      most : T (all (λ K. leb (key (f K)) m) Ks)
      most = and_right (leb (key (f K)) m) (all (λ K. leb (key (f K)) m) Ks) t

      next : Bool → Best
      next d = cond d (given K) b

      go : (d : Bool) → eqb m (key (f K)) ≡ d
          → ((b' : Best) → T (low b'.value) → key b'.value < m → key_place m Ks < length Ks → better f b' Ks ≡ given (get_or Ks (key_place m Ks) []))
          → cond d 0 (suc (key_place m Ks)) < suc (length Ks)
          → better f (next (smaller b.value (f K))) Ks ≡ given (get_or (K ∷ Ks) (cond d 0 (suc (key_place m Ks))) [])
      go true e ih i =
          let q : m ≡ key (f K) = eqb-true m (key (f K)) e in
          ap (λ (d : Bool). better f (next d) Ks) (below b K l ∙ lt-ltb (key b.value) (key (f K)) (omega arith))
          ∙ better-stays f (given K) Ks (all-le (λ L. leb (key (f L)) m) (λ L. not (smaller (f K) (f L))) Ks (λ L u. not-above K L (omega (arith, leb→le (key (f L)) m u))) most)
      go false e ih i = pick (smaller b.value (f K))
        where
          pick : (d : Bool) → better f (next d) Ks ≡ given (get_or Ks (key_place m Ks) [])
          pick true = ih (given K) (finite-low (f K) (fin K)) (let ne = eqb-false m (key (f K)) e in let le = leb→le (key (f K)) m (and_left (leb (key (f K)) m) (all (λ K. leb (key (f K)) m) Ks) t) in omega (arith, ne, le)) (omega arith)
          pick false = ih b l h (omega arith)

  -- ---- the best value's own key

  -- it is that of the start, or some set has it
  reached : (b : Best) (Ks : List Columns) → let m = key (better f b Ks).value in (m ≡ key b.value) ⊎ (key_place m Ks < length Ks)
  unfolding better first_at
  reached b [] = inl refl
  reached b (K ∷ Ks) = go (smaller b.value (f K)) (λ b'. reached b' Ks)
    where
      first : (m : ℕ) (d : Bool) → eqb m (key (f K)) ≡ d → (m ≡ key (f K)) ⊎ (key_place m Ks < length Ks) → cond d 0 (suc (key_place m Ks)) < suc (length Ks)
      first m true e h = omega arith
      first m false e (inl q) = absurd (let ne = eqb-false m (key (f K)) e in ne q)
      first m false e (inr h) = omega arith

      later : (m : ℕ) (d : Bool) → key_place m Ks < length Ks → cond d 0 (suc (key_place m Ks)) < suc (length Ks)
      later m true h = omega arith
      later m false h = omega arith

      go : (d : Bool) → ((b' : Best) → let m = key (better f b' Ks).value in (m ≡ key b'.value) ⊎ (key_place m Ks < length Ks))
          → let m = key (better f (cond d (given K) b) Ks).value in (m ≡ key b.value) ⊎ (cond (eqb m (key (f K))) 0 (suc (key_place m Ks)) < suc (length Ks))
      go true ih = let m = key (better f (given K) Ks).value in inr (first m (eqb m (key (f K))) refl (ih (given K)))
      go false ih = stay (key (better f b Ks).value) (ih b)
        where
          stay : (m : ℕ) → (m ≡ key b.value) ⊎ (key_place m Ks < length Ks) → (m ≡ key b.value) ⊎ (cond (eqb m (key (f K))) 0 (suc (key_place m Ks)) < suc (length Ks))
          stay m (inl q) = inl q
          stay m (inr h) = inr (later m (eqb m (key (f K))) h)

  module _ (b : Best) (Ks : List Columns) (l : T (low b.value)) (rises : key b.value < key (better f b Ks).value) where
    abbrev m : ℕ
    m = key (better f b Ks).value

    pub first-there : key_place (key (better f b Ks).value) Ks < length Ks
    first-there = go (reached b Ks)
      where
        go : (key (better f b Ks).value ≡ key b.value) ⊎ (key_place (key (better f b Ks).value) Ks < length Ks) → key_place (key (better f b Ks).value) Ks < length Ks
        go (inl q) = absurd (omega arith)
        go (inr h) = h

    most : T (all (λ K. leb (key (f K)) (key (better f b Ks).value)) Ks)
    most = all-le (λ K. not (ltb m (key (f K)))) (λ K. leb (key (f K)) m) Ks (λ K u. subst (λ (d : Bool). T d) (sym (leb-not (key (f K)) m)) u)
        (none-counted (λ K. ltb m (key (f K))) Ks
        (sym (count_map f (λ x. ltb m (key x)) Ks) ∙ ap (λ (v : Float). count (λ x. ltb (key v) (key x)) (map f Ks)) (better-value f b Ks) ∙ (best-least b.value (map f Ks) l (all-finite f fin Ks)).1))

    pub better-first : better f b Ks ≡ given (get_or Ks (key_place (key (better f b Ks).value) Ks) [])
    better-first = better-at m b Ks l rises most first-there

  -- from a start below the best value, and from minus infinity
  pub same_start : ((K : Columns) → with_plus_zero (f K) ≡ f K) → (v : Float) (s : ℕ) (Ks : List Columns) → T (low v) → smaller v (better f (record { value = v; set = s }) Ks).value ≡ true
      → better f (record { value = v; set = s }) Ks ≡ better f (record { value = inf true; set = s }) Ks
  same_start plain v s Ks l up =
      better-first b Ks l rises ∙ ap (λ (x : Float). given (get_or Ks (key_place (key x) Ks) [])) same
      ∙ sym (better-first c Ks tt (subst (λ (x : Float). key (inf true) < key x) (sym (better-value f c Ks)) (lowest-under f fin Ks filled)))
    where
      b : Best
      b = record { value = v; set = s }

      c : Best
      c = record { value = inf true; set = s }

      rises : key v < key (better f (record { value = v; set = s }) Ks).value
      rises = ltb→lt (key v) (key (better f b Ks).value) (subst (λ (d : Bool). T d) (smaller-low v (better f b Ks).value l (subst (λ (x : Float). T (low x)) (sym (better-value f b Ks)) (best-holds f (λ x. T (low x)) v Ks l (λ K. finite-low (f K) (fin K))))) (true-T (smaller v (better f b Ks).value) up))

      filled : 0 < length (map f Ks)
      filled = omega (arith, length-map Ks f, first-there b Ks l rises)

      same : (better f (record { value = v; set = s }) Ks).value ≡ (better f (record { value = inf true; set = s }) Ks).value
      same = better-value f b Ks ∙ same-best f fin plain Ks v l (subst (λ (x : Float). T (smaller v x)) (better-value f b Ks) (true-T (smaller v (better f b Ks).value) up)) ∙ sym (better-value f c Ks)
