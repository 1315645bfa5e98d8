-- How many rows must be allowed for a value to lie above the critical value with R rejected.
--   needed-law     that critical value reaches v exactly where e is below `needed`
--   needed-most    `needed` is at most M
--   needed-falls   with more rejected, a value no smaller needs no more
--   needed-bound   with k or more rejected it is at most the count by maxima: a row that counts has a column that is left
--   needed-one     for k = 1 it is the count over what is left: nothing is put back
--   largest-under  the largest of several counts is at most what each of them is at most
use Prim.Native.Nat.{ℕ, zero, suc, ◌+◌, ◌-◌, ◌≤◌, ◌<◌, max}
use native.Mathlib.Omega.{arith}
use native.Mathlib.Nat.{le-max_left, le-max_right, max-le, max-zero}
use native.Mathlib.Decide.{dec_le}
use mathlib.Core.Path.{◌≡◌, refl, sym, ap, ◌∙◌}
use mathlib.Core.Logic.{◌↔◌}
use mathlib.Core.Bool.{Bool, true, false, cond}
use mathlib.Core.List.{List, [], ◌∷◌, map}
use lib.ListN.{length, length-map}
use lib.Dec.{ltb, leb, T, ltb→lt, lt→ltb, leb→le, le→leb}
use lib.Ieee.{Float}
use borrow.Author.Tests.{lt-ltb, le-ltb}
use Rattle.order.specs.Order.{finite}
use Rattle.order.specs.Counting.{bit, count, all}
use Rattle.order.proofs.Booleans.{same_test, not_within, and_left, and_right}
use Rattle.order.proofs.Keys.{key, key-some}
use Rattle.order.proofs.Counts.{count-same-all, count-le-all, count_map}
use Rattle.order.proofs.Rows.{Sound}
use Rattle.select.specs.Rank.{kth_largest}
use Rattle.select.proofs.Ranks.{kth_largest-law}
use Rattle.columns.specs.Columns.{Columns, size, ◌∪◌, ◌∩◌, ◌∖◌, choose, reached}
use Rattle.columns.proofs.Sets.{◌⊆◌, ⊆-length, length-∪, length-∖, empty-size}
use Rattle.columns.proofs.PutBack.{choose-some, choose-sound, size-put, join-meets}
use Rattle.columns.proofs.Remaining.{left-none, nothing-new}
use Rattle.method.specs.Method.{critical_value, put_back, reaching}
use Rattle.method.proofs.Critical.{sets-finite}
use Rattle.method.proofs.Reaching.{reach-law, reaching-columns, reaching-most}
use Rattle.runs.proofs.Loosening.{critical_at, critical_at-few, critical_at-many, critical_at-falls}
use Rattle.adjustment.specs.Passes.{largest_of, needed}

-- the largest is above e where some number is
largest-law : (e : ℕ) (ns : List ℕ) → (0 < count (λ m. ltb e m) ns) ↔ (e < largest_of ns)
unfolding count largest_of
largest-law e [] = (λ h. absurd (omega arith), λ h. absurd (omega arith))
largest-law e (m ∷ ns) = go (dec_le (suc e) m) (largest-law e ns)
  where
    go : Dec (suc e ≤ m) → (0 < count (λ m. ltb e m) ns) ↔ (e < largest_of ns) → (0 < bit (ltb e m) + count (λ m. ltb e m) ns) ↔ (e < max m (largest_of ns))
    go (yes h) ih = (λ _. omega (arith, le-max_left m (largest_of ns)), λ _. omega (arith, ap bit (lt-ltb e m h)))
    go (no h) ih = (
      λ g. omega (arith, le-max_right m (largest_of ns), ih.0 (omega (arith, ap bit (le-ltb e m (omega (arith, h)))))),
      λ g. omega (arith, ih.1 (not_within (largest_of ns) e (λ q. let b : max m (largest_of ns) ≤ e = max-le (omega (arith, h)) q in omega arith))),
    )

module _ (n k e : ℕ) (X : List (List Float)) (v : Float) (sound : Sound n X) (pos : 0 < k) (rare : e < length X) (f : T (finite v)) where
  reaches : (K : Columns) → (key v ≤ key (critical_value k e X K)) ↔ (e < reaching k X K v)
  reaches K = reach-law n k e X K v sound pos rare f

  put-law : (A R : Columns) → k ≤ size R → (key v ≤ key (put_back k e X A R)) ↔ (e < largest_of (map (λ I. reaching k X (A ∪ I) v) (choose (k - 1) R)))
  unfolding put_back
  put-law A R many = go (key v) refl (key-some v f)
    where
      largest : (u : ℕ) → (u < key (kth_largest 1 (map (λ I. critical_value k e X (A ∪ I)) (choose (k - 1) R)))) ↔ (1 ≤ count (λ x. ltb u (key x)) (map (λ I. critical_value k e X (A ∪ I)) (choose (k - 1) R)))
      largest u = kth_largest-law 1 (map (λ I. critical_value k e X (A ∪ I)) (choose (k - 1) R)) (sets-finite n k e X sound A R) (omega arith)
          (omega (arith, length-map (choose (k - 1) R) (λ I. critical_value k e X (A ∪ I)), choose-some (k - 1) R (omega arith))) u

      counts : (u : ℕ) → key v ≡ suc u → count (λ x. ltb u (key x)) (map (λ I. critical_value k e X (A ∪ I)) (choose (k - 1) R)) ≡ count (λ m. ltb e m) (map (λ I. reaching k X (A ∪ I) v) (choose (k - 1) R))
      counts u q =
          count_map (λ I. critical_value k e X (A ∪ I)) (λ x. ltb u (key x)) (choose (k - 1) R)
          ∙ count-same-all (λ I. ltb u (key (critical_value k e X (A ∪ I)))) (λ I. ltb e (reaching k X (A ∪ I) v)) (choose (k - 1) R)
          (λ I. same_test (ltb u (key (critical_value k e X (A ∪ I)))) (ltb e (reaching k X (A ∪ I) v))
          (λ t. lt→ltb e (reaching k X (A ∪ I) v) ((reaches (A ∪ I)).0 (omega (arith, ltb→lt u (key (critical_value k e X (A ∪ I))) t))))
          (λ t. lt→ltb u (key (critical_value k e X (A ∪ I))) (omega (arith, (reaches (A ∪ I)).1 (ltb→lt e (reaching k X (A ∪ I) v) t)))))
          ∙ sym (count_map (λ I. reaching k X (A ∪ I) v) (λ m. ltb e m) (choose (k - 1) R))

      go : (w : ℕ) → key v ≡ w → 0 < w → (w ≤ key (kth_largest 1 (map (λ I. critical_value k e X (A ∪ I)) (choose (k - 1) R)))) ↔ (e < largest_of (map (λ I. reaching k X (A ∪ I) v) (choose (k - 1) R)))
      go zero q p = absurd (omega arith)
      go (suc u) q p = (
        λ g. (largest-law e (map (λ I. reaching k X (A ∪ I) v) (choose (k - 1) R))).0 (omega (arith, (largest u).0 g, counts u q)),
        λ g. (largest u).1 (omega (arith, (largest-law e (map (λ I. reaching k X (A ∪ I) v) (choose (k - 1) R))).1 g, counts u q)),
      )

  pub needed-law : (live R : Columns) → (key v ≤ key (critical_at k e X live R)) ↔ (e < needed k X live R v)
  unfolding needed
  needed-law live R = go (dec_le k (size R))
    where
      go : Dec (k ≤ size R) → (key v ≤ key (critical_at k e X live R)) ↔ (e < cond (ltb (size R) k) (reaching k X live v) (largest_of (map (λ I. reaching k X ((live ∖ R) ∪ I) v) (choose (k - 1) R))))
      go (yes m) = rw (critical_at-many k e X live R m, le-ltb (size R) k m) (put-law (live ∖ R) R m)
      go (no h) = let few : size R < k = omega (arith, h) in rw (critical_at-few k e X live R few, lt-ltb (size R) k few) (reaches live)

pub needed-most : (k : ℕ) (X : List (List Float)) (live R : Columns) (v : Float) → needed k X live R v ≤ length X
unfolding needed largest_of
needed-most k X live R v = go (ltb (size R) k)
  where
    all_most : (Is : List Columns) → largest_of (map (λ I. reaching k X ((live ∖ R) ∪ I) v) Is) ≤ length X
    all_most [] = omega arith
    all_most (I ∷ Is) = max-le (reaching-most k X ((live ∖ R) ∪ I) v) (all_most Is)

    go : (b : Bool) → cond b (reaching k X live v) (largest_of (map (λ I. reaching k X ((live ∖ R) ∪ I) v) (choose (k - 1) R))) ≤ length X
    go true = reaching-most k X live v
    go false = all_most (choose (k - 1) R)

pub needed-falls : (k : ℕ) (X : List (List Float)) (live R R' : Columns) (v x : Float) → Sound (length live) X → 0 < k → k ≤ size live → R ⊆ R' → R' ⊆ live → 0 < size (live ∖ R') → T (finite v) → T (finite x) → key v ≤ key x
    → needed k X live R' x ≤ needed k X live R v
needed-falls k X live R R' v x sound pos held sub inside left f g le = go (needed k X live R' x) refl
  where
    go : (n : ℕ) → needed k X live R' x ≡ n → n ≤ needed k X live R v
    go zero q = omega arith
    go (suc e) q =
        let rare : e < length X = omega (arith, needed-most k X live R' x) in
        let low : key v ≤ key (critical_at k e X live R) = omega (
          arith,
          (needed-law (length live) k e X x sound pos rare g live R').1 (omega arith),
          critical_at-falls k e e X live sound pos held (omega arith) rare R R' sub inside left,
        ) in
        omega (arith, (needed-law (length live) k e X v sound pos rare f live R).0 low)

pub largest-under : {A : Type 0} (f : A → ℕ) (m : ℕ) (l : List A) → T (all (λ x. leb (f x) m) l) → largest_of (map f l) ≤ m
unfolding largest_of all
largest-under f m [] t = omega arith
largest-under f m (x ∷ l) t = max-le (leb→le (f x) m (and_left (leb (f x) m) (all (λ x. leb (f x) m) l) t)) (largest-under f m l (and_right (leb (f x) m) (all (λ x. leb (f x) m) l) t))

module _ (k : ℕ) (X : List (List Float)) (live R : Columns) (v : Float) (sound : Sound (length live) X) (pos : 0 < k) (inside : R ⊆ live) (left : 0 < size (live ∖ R)) (f : T (finite v)) where
  even : length live ≡ length R
  even = sym (⊆-length inside)

  put-bound : (I : Columns) → I ⊆ R → size I ≡ k - 1 → reaching k X ((live ∖ R) ∪ I) v ≤ reaching 1 X (live ∖ R) v
  put-bound I sub z = omega (
    arith,
    reaching-columns (length live) k X ((live ∖ R) ∪ I) v sound (length-∪ (live ∖ R) I same ∙ length-∖ live R even) pos (omega (arith, size-put live sub even)) f,
    reaching-columns (length live) 1 X (live ∖ R) v sound (length-∖ live R even) (omega arith) left f,
    count-le-all (λ row. leb k (size (((live ∖ R) ∪ I) ∩ reached v row))) (λ row. leb 1 (size ((live ∖ R) ∩ reached v row))) X
        (λ row t. le→leb 1 (size ((live ∖ R) ∩ reached v row)) (omega (arith, join-meets (live ∖ R) I (reached v row) same, leb→le k (size (((live ∖ R) ∪ I) ∩ reached v row)) t))),
  )
    where
      same : length (live ∖ R) ≡ length I
      same = length-∖ live R even ∙ even ∙ sym (⊆-length sub)

  pub needed-bound : k ≤ size R → needed k X live R v ≤ reaching 1 X (live ∖ R) v
  unfolding needed
  needed-bound many = rw (le-ltb (size R) k many) (largest-under (λ I. reaching k X ((live ∖ R) ∪ I) v) (reaching 1 X (live ∖ R) v) (choose (k - 1) R)
      (choose-sound (k - 1) R (λ I. leb (reaching k X ((live ∖ R) ∪ I) v) (reaching 1 X (live ∖ R) v)) (λ I sub z. le→leb (reaching k X ((live ∖ R) ∪ I) v) (reaching 1 X (live ∖ R) v) (put-bound I sub z))))

pub needed-one : (X : List (List Float)) (live R : Columns) (v : Float) → R ⊆ live → needed 1 X live R v ≡ reaching 1 X (live ∖ R) v
unfolding needed largest_of choose
needed-one X live R v inside = go (dec_le 1 (size R))
  where
    go : Dec (1 ≤ size R) → cond (ltb (size R) 1) (reaching 1 X live v) (largest_of (map (λ I. reaching 1 X ((live ∖ R) ∪ I) v) (map (λ _. false) R ∷ []))) ≡ reaching 1 X (live ∖ R) v
    go (yes m) =
        ap (λ (b : Bool). cond b (reaching 1 X live v) (largest_of (map (λ I. reaching 1 X ((live ∖ R) ∪ I) v) (map (λ _. false) R ∷ [])))) (le-ltb (size R) 1 m)
        ∙ max-zero (reaching 1 X ((live ∖ R) ∪ map (λ _. false) R) v)
        ∙ ap (λ (K : Columns). reaching 1 X K v) (nothing-new (live ∖ R) (map (λ _. false) R) (length-∖ live R (sym (⊆-length inside)) ∙ sym (⊆-length inside) ∙ sym (length-map R _)) (empty-size R))
    go (no h) =
        let few : size R < 1 = omega (arith, h) in
        ap (λ (b : Bool). cond b (reaching 1 X live v) (largest_of (map (λ I. reaching 1 X ((live ∖ R) ∪ I) v) (map (λ _. false) R ∷ [])))) (lt-ltb (size R) 1 few)
        ∙ ap (λ (K : Columns). reaching 1 X K v) (sym (left-none live R (sym (⊆-length inside)) (omega arith)))
