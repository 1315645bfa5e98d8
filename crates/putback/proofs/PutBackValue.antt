-- The largest of critical values, met one by one.
--   best-least, best-holds, best-member     no member is above the best; what holds of the start and of all members holds of it; above the start it is a member
--   all-finite, lowest-under     values that are finite, and above minus infinity
--   same-best         from any bound that it is above, and from minus infinity
--   put-back-value    the put-back critical value; one_value, one_left: of one set
use Prim.Native.Nat.{ℕ, zero, suc, ◌+◌, ◌-◌, ◌≤◌, ◌<◌}
use native.Mathlib.Omega.{arith}
use mathlib.Core.Path.{◌≡◌, refl, sym, ap, ◌∙◌, subst}
use mathlib.Core.Bool.{Bool, true, false, cond}
use mathlib.Core.List.{List, [], ◌∷◌, map}
use lib.ListN.{length, length-map}
use lib.Dec.{T, ltb, ltb→lt}
use lib.Ieee.{Float, inf}
use borrow.Author.Tests.{ltb-true, ltb-false, lt-ltb, le-ltb}
use Rattle.order.specs.Order.{finite, low, smaller, larger, with_plus_zero}
use Rattle.order.specs.Counting.{bit, count, all}
use Rattle.order.specs.Lists.{rows_of}
use Rattle.order.proofs.Booleans.{and_left, and_right, and_both}
use Rattle.order.proofs.Counts.{count-length}
use Rattle.order.proofs.Infinities.{finite-low, smaller-low}
use Rattle.order.proofs.Keys.{key, key-some}
use Rattle.order.proofs.Rows.{Finite, Sound, rows_of-sound}
use Rattle.select.specs.Rank.{kth_largest}
use Rattle.select.proofs.Ranks.{above, from, kth_largest-is}
use Rattle.columns.specs.Columns.{Columns, size, ◌∪◌, choose, columns_of}
use Rattle.columns.proofs.PutBack.{choose-some}
use Rattle.method.specs.Method.{critical_value, put_back}
use Rattle.method.proofs.Critical.{critical_value-finite, critical_value-plain}
use Rattle.masks.specs.Internal.{CheckedTable}
use Rattle.putback.specs.Internal.{best_of, sets_of}
use Rattle.putback.proofs.Branches.{sets-all, sets-leaf}

-- ---- the larger of two

-- what holds of both holds of the larger
larger-holds : (P : Float → Type 0) (b c : Float) → P b → P c → P (larger b c)
larger-holds P b c p q = go (smaller b c)
  where
    go : (t : Bool) → P (cond t c b)
    go true = q
    go false = p

larger-key : (b c : Float) → T (low b) → T (finite c) → (v : ℕ) → bit (ltb v (key (larger b c))) ≤ bit (ltb v (key b)) + bit (ltb v (key c))
larger-key b c l f v = go (smaller b c)
  where
    go : (t : Bool) → bit (ltb v (key (cond t c b))) ≤ bit (ltb v (key b)) + bit (ltb v (key c))
    go true = omega arith
    go false = omega arith

-- the larger is no smaller than either
larger-least : (b c : Float) → T (low b) → T (finite c) → (key b ≤ key (larger b c)) × (key c ≤ key (larger b c))
larger-least b c l f = go (smaller b c) (ltb-true (key b) (key c)) (ltb-false (key b) (key c)) (smaller-low b c l (finite-low c f))
  where
    go : (t : Bool) → (ltb (key b) (key c) ≡ true → key b < key c) → (ltb (key b) (key c) ≡ false → key c ≤ key b) → t ≡ ltb (key b) (key c) → (key b ≤ key (cond t c b)) × (key c ≤ key (cond t c b))
    go true p q e = let h : key b < key c = p (sym e) in (omega arith, omega arith)
    go false p q e = let h : key c ≤ key b = q (sym e) in (omega arith, omega arith)

larger-low : (b c : Float) → T (low b) → T (finite c) → T (low (larger b c))
larger-low b c l f = larger-holds (λ x. T (low x)) b c l (finite-low c f)

-- no member lies above the best
pub best-least : (b : Float) (cs : List Float) → T (low b) → Finite cs → (key b ≤ key (best_of b cs)) × (above (key (best_of b cs)) cs ≡ 0)
unfolding best_of count all
best-least b [] l fs = (omega arith, refl)
best-least b (c ∷ cs) l fs =
    let f = and_left (finite c) (all finite cs) fs in
    let ih = best-least (larger b c) cs (larger-low b c l f) (and_right (finite c) (all finite cs) fs) in
    let le = larger-least b c l f in
    (omega (arith, ih.0, le.0), omega (arith, ih.1, ap bit (le-ltb (key (best_of (larger b c) cs)) (key c) (omega (arith, ih.0, le.1)))))

-- the best is b or reached by a member
best-reached : (b : Float) (cs : List Float) (v : ℕ) → T (low b) → Finite cs → v < key (best_of b cs) → 1 ≤ bit (ltb v (key b)) + above v cs
unfolding best_of count all
best-reached b [] v l fs h = omega (arith, ap bit (lt-ltb v (key b) h))
best-reached b (c ∷ cs) v l fs h =
    let f = and_left (finite c) (all finite cs) fs in
    omega (arith, best-reached (larger b c) cs v (larger-low b c l f) (and_right (finite c) (all finite cs) fs) h, larger-key b c l f v)

-- ---- the largest of a list

-- minus infinity is below every finite value
lowest-below : (x : Float) → T (finite x) → smaller (inf true) x ≡ true
unfolding key
lowest-below x f = smaller-low (inf true) x tt (finite-low x f) ∙ lt-ltb 0 (key x) (key-some x f)

module _ {A : Type 0} (f : A → Float) where
  pub best-holds : (P : Float → Type 0) (b : Float) (l : List A) → P b → ((x : A) → P (f x)) → P (best_of b (map f l))
  unfolding best_of
  best-holds P b [] p h = p
  best-holds P b (x ∷ l) p h = best-holds P (larger b (f x)) l (larger-holds P b (f x) p (h x)) h

  -- where it is above the bound it is a member
  pub best-member : (P : Float → Type 0) (b : Float) (l : List A) → key b < key (best_of b (map f l)) → ((x : A) → P (f x)) → P (best_of b (map f l))
  unfolding best_of
  best-member P b [] r h = absurd (omega arith)
  best-member P b (x ∷ l) r h = go (smaller b (f x)) r (λ q. best-member P b l q h)
    where
      go : (t : Bool) → key b < key (best_of (cond t (f x) b) (map f l)) → (key b < key (best_of b (map f l)) → P (best_of b (map f l))) → P (best_of (cond t (f x) b) (map f l))
      go true r ih = best-holds P (f x) l (h x) h
      go false r ih = ih r

  pub all-finite : ((x : A) → T (finite (f x))) → (l : List A) → Finite (map f l)
  unfolding all
  all-finite h [] = tt
  all-finite h (x ∷ l) = and_both (finite (f x)) (all finite (map f l)) (h x) (all-finite h l)

  -- of some values it is above minus infinity
  pub lowest-under : ((x : A) → T (finite (f x))) → (l : List A) → 0 < length (map f l) → key (inf true) < key (best_of (inf true) (map f l))
  unfolding best_of key
  lowest-under h [] p = absurd (omega arith)
  lowest-under h (x ∷ l) p = omega (
    arith,
    key-some (f x) (h x),
    (larger-least (inf true) (f x) tt (h x)).1,
    (best-least (larger (inf true) (f x)) (map f l) (larger-low (inf true) (f x) tt (h x)) (all-finite h l)).0,
  )

  module _ (fin : (x : A) → T (finite (f x))) (plain : (x : A) → with_plus_zero (f x) ≡ f x) (l : List A) where
    fs : Finite (map f l)
    fs = all-finite fin l

    best-largest : (b : Float) → T (low b) → key b < key (best_of b (map f l)) → best_of b (map f l) ≡ kth_largest 1 (map f l)
    best-largest b w r = kth_largest-is 1 (map f l) fs (omega arith) filled (best_of b (map f l)) (record {
      finitely = best-member (λ x. T (finite x)) b l r fin;
      plain = best-member (λ x. with_plus_zero x ≡ x) b l r plain;
      few = omega (arith, (best-least b (map f l) w fs).1);
      enough = enough (key (best_of b (map f l))) refl;
    })
      where
        reach : (m : ℕ) → key b ≤ m → m < key (best_of b (map f l)) → 1 ≤ above m (map f l)
        reach m h g = omega (arith, best-reached b (map f l) m w fs g, ap bit (le-ltb m (key b) h))

        filled : 1 ≤ length (map f l)
        filled = omega (arith, reach (key b) (omega arith) r, count-length (λ x. ltb (key b) (key x)) (map f l))

        enough : (m : ℕ) → key (best_of b (map f l)) ≡ m → 1 ≤ from m (map f l)
        enough zero q = absurd (omega (arith, r))
        enough (suc m) q = reach m (omega (arith, r)) (omega arith)

    -- the bound makes no difference
    pub same-best : (b : Float) → T (low b) → T (smaller b (best_of b (map f l))) → best_of b (map f l) ≡ best_of (inf true) (map f l)
    same-best b w t = best-largest b w rises ∙ sym (best-largest (inf true) tt (lowest-under fin l (above-some rises)))
      where
        rises : key b < key (best_of b (map f l))
        rises = ltb→lt (key b) (key (best_of b (map f l))) (subst (λ (d : Bool). T d) (smaller-low b (best_of b (map f l)) w (best-holds (λ x. T (low x)) b l w (λ x. finite-low (f x) (fin x)))) t)

        above-some : key b < key (best_of b (map f l)) → 0 < length (map f l)
        above-some r = omega (arith, best-reached b (map f l) (key b) w fs r, ap bit (le-ltb (key b) (key b) (omega arith)), count-length (λ x. ltb (key b) (key x)) (map f l))

    pub largest-is : 0 < length (map f l) → best_of (inf true) (map f l) ≡ kth_largest 1 (map f l)
    largest-is h = best-largest (inf true) tt (lowest-under fin l h)

-- ---- critical values

module _ (n k e : ℕ) (X : List (List Float)) (sound : Sound n X) where
  abbrev c : Columns → Float
  c K = critical_value k e X K

  pub values-finite : (K : Columns) → T (finite (critical_value k e X K))
  values-finite K = critical_value-finite n k e X K sound

-- ---- a checked table

module _ {t : List Float} {rows cols k : ℕ} (e : ℕ) (r : CheckedTable t rows cols k) where
  sound : Sound cols (rows_of rows cols t)
  sound = rows_of-sound rows cols t r.full r.finitely

  pub put-back-value : (remaining rejected : ℕ) {x : Float} → k - 1 ≤ size (columns_of cols rejected)
      → x ≡ best_of (inf true) (map (λ K. critical_value k e (rows_of rows cols t) K) (sets_of cols (record { set = remaining; rest = rejected; from = 0; left = k - 1 })))
      → x ≡ put_back k e (rows_of rows cols t) (columns_of cols remaining) (columns_of cols rejected)
  unfolding put_back
  put-back-value remaining rejected some q =
      q ∙ ap (λ (Ks : List Columns). best_of (inf true) (map (λ K. critical_value k e X K) Ks)) (sets-all cols remaining rejected (k - 1))
      ∙ ap (best_of (inf true)) (map-map (λ K. critical_value k e X K) (λ I. columns_of cols remaining ∪ I) (choose (k - 1) (columns_of cols rejected)))
      ∙ largest-is (λ I. critical_value k e X (columns_of cols remaining ∪ I)) (λ I. values-finite cols k e X sound (columns_of cols remaining ∪ I)) (λ I. critical_value-plain k e X (columns_of cols remaining ∪ I)) (choose (k - 1) (columns_of cols rejected))
      (omega (arith, length-map (choose (k - 1) (columns_of cols rejected)) (λ I. critical_value k e X (columns_of cols remaining ∪ I)), choose-some (k - 1) (columns_of cols rejected) some))
    where
      X : List (List Float)
      X = rows_of rows cols t

      map-map : {A B C : Type 0} (f : B → C) (e : A → B) (l : List A) → map f (map e l) ≡ map (λ x. f (e x)) l
      map-map f e [] = refl
      map-map f e (x ∷ l) = ap (λ m. f (e x) ∷ m) (map-map f e l)

  -- nothing put back: one set
  pub one_value : (set : ℕ) {x : Float} → x ≡ best_of (inf true) (map (λ K. critical_value k e (rows_of rows cols t) K) (sets_of cols (record { set = set; rest = 0; from = 0; left = 0 }))) → x ≡ critical_value k e (rows_of rows cols t) (columns_of cols set)
  unfolding best_of
  one_value set q =
      q ∙ ap (λ (Ks : List Columns). best_of (inf true) (map (λ K. critical_value k e (rows_of rows cols t) K) Ks)) (sets-leaf cols (record { set = set; rest = 0; from = 0; left = 0 }) (omega arith) refl)
      ∙ ap (λ (d : Bool). cond d (critical_value k e (rows_of rows cols t) (columns_of cols set)) (inf true)) (lowest-below (critical_value k e (rows_of rows cols t) (columns_of cols set)) (values-finite cols k e (rows_of rows cols t) sound (columns_of cols set)))

  -- with k = 1 the columns left are the one set
  pub one_left : (remaining rejected : ℕ) {x : Float} → k ≡ 1 → x ≡ critical_value k e (rows_of rows cols t) (columns_of cols remaining) → x ≡ put_back k e (rows_of rows cols t) (columns_of cols remaining) (columns_of cols rejected)
  unfolding best_of
  one_left remaining rejected one q = put-back-value remaining rejected (omega arith)
      (q ∙ sym (ap (λ (d : Bool). cond d (critical_value k e (rows_of rows cols t) (columns_of cols remaining)) (inf true)) (lowest-below (critical_value k e (rows_of rows cols t) (columns_of cols remaining)) (values-finite cols k e (rows_of rows cols t) sound (columns_of cols remaining))))
      ∙ sym (ap (λ (Ks : List Columns). best_of (inf true) (map (λ K. critical_value k e (rows_of rows cols t) K) Ks)) (sets-leaf cols (record { set = remaining; rest = rejected; from = 0; left = k - 1 }) (omega arith) (omega arith))))
