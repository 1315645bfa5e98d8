-- The count by marks is the count by k-max values; and where the count by maxima tells, no marks are made.
--   needed-marks     `needed_in` of the marks by v is `needed` for v
--   raising-counts   what the count asks for
--   raised-one, raised-bounded, raised-counted     the larger of a figure and the count that is needed: for k = 1, where the bound tells, and by marks
use Prim.Native.Nat.{ℕ, ◌-◌, ◌≤◌, ◌<◌, max}
use native.Mathlib.Omega.{arith}
use native.Mathlib.Decide.{dec_le}
use mathlib.Core.Path.{◌≡◌, refl, sym, ap, ap₂, ◌∙◌, subst}
use mathlib.Core.Bool.{cond}
use mathlib.Core.List.{List, [], ◌∷◌, map}
use lib.ListN.{length}
use lib.Dec.{T, eqb, ltb, eqb→eq}
use lib.Ieee.{Float}
use borrow.Author.Tests.{eq-eqb, lt-ltb, le-ltb}
use Rattle.order.specs.Order.{finite, at_most}
use Rattle.order.specs.Counting.{all}
use Rattle.order.proofs.Booleans.{and_left, and_right, true-T}
use Rattle.order.specs.Lists.{rows_of}
use Rattle.order.proofs.Rows.{Sound, rows_of-sound}
use Rattle.columns.specs.Columns.{Columns, size, ◌∪◌, ◌∖◌, choose, reached, columns_of}
use Rattle.columns.proofs.Sets.{◌⊆◌, ⊆-by, ⊆-length, length-∪, length-∖}
use Rattle.columns.proofs.Masks.{columns_of-length}
use Rattle.columns.proofs.PutBack.{choose-sound, size-put}
use Rattle.method.specs.Method.{reaching}
use Rattle.method.proofs.Reaching.{reaching-columns}
use Rattle.masks.specs.Marks.{marks_of, holding_columns}
use Rattle.masks.proofs.Marks.{marks-counted}
use Rattle.adjustment.specs.Passes.{largest_of, needed}
use Rattle.figuring.specs.Internal.{needed_in, Countable, Raising}
use Rattle.adjustment.proofs.Needed.{needed-bound, needed-one}

-- counts that agree on every member have the same largest
largest-same : {A : Type 0} (f g : A → ℕ) (l : List A) → T (all (λ x. eqb (f x) (g x)) l) → largest_of (map f l) ≡ largest_of (map g l)
unfolding largest_of all
largest-same f g [] t = refl
largest-same f g (x ∷ l) t = ap₂ max (eqb→eq (f x) (g x) (and_left (eqb (f x) (g x)) (all (λ x. eqb (f x) (g x)) l) t)) (largest-same f g l (and_right (eqb (f x) (g x)) (all (λ x. eqb (f x) (g x)) l) t))

module _ (n k : ℕ) (X : List (List Float)) (v : Float) (sound : Sound n X) (narrow : n ≤ 32) (pos : 0 < k) (f : T (finite v)) where
  -- in as many rows a set's k-max reaches v as the marks tell
  marks-reach : (K : Columns) → length K ≡ n → k ≤ size K → holding_columns k K (marks_of k (λ x. at_most v x) X) ≡ reaching k X K v
  unfolding reached
  marks-reach K h wide = marks-counted n k (λ x. at_most v x) X sound narrow K h ∙ sym (reaching-columns n k X K v sound h pos wide f)

  pub needed-marks : (live R : Columns) → length live ≡ n → k ≤ size live → R ⊆ live → 0 < size (live ∖ R) → needed_in k (marks_of k (λ x. at_most v x) X) live R ≡ needed k X live R v
  unfolding needed_in needed
  needed-marks live R h held inside some = go (dec_le k (size R))
    where
      ms : List ℕ
      ms = marks_of k (λ x. at_most v x) X

      len : length live ≡ length R
      len = sym (⊆-length inside)

      put : (I : Columns) → I ⊆ R → size I ≡ k - 1 → holding_columns k ((live ∖ R) ∪ I) ms ≡ reaching k X ((live ∖ R) ∪ I) v
      put I sub e = marks-reach ((live ∖ R) ∪ I) (length-∪ (live ∖ R) I (length-∖ live R len ∙ len ∙ sym (⊆-length sub)) ∙ length-∖ live R len ∙ h) (omega (arith, size-put live sub len))

      go : Dec (k ≤ size R) → cond (ltb (size R) k) (holding_columns k live ms) (largest_of (map (λ I. holding_columns k ((live ∖ R) ∪ I) ms) (choose (k - 1) R)))
          ≡ cond (ltb (size R) k) (reaching k X live v) (largest_of (map (λ I. reaching k X ((live ∖ R) ∪ I) v) (choose (k - 1) R)))
      go (yes many) = rw (le-ltb (size R) k many) (largest-same (λ I. holding_columns k ((live ∖ R) ∪ I) ms) (λ I. reaching k X ((live ∖ R) ∪ I) v) (choose (k - 1) R)
          (choose-sound (k - 1) R (λ I. eqb (holding_columns k ((live ∖ R) ∪ I) ms) (reaching k X ((live ∖ R) ∪ I) v)) (λ I sub e. true-T (eqb (holding_columns k ((live ∖ R) ∪ I) ms) (reaching k X ((live ∖ R) ∪ I) v)) (eq-eqb (holding_columns k ((live ∖ R) ∪ I) ms) (reaching k X ((live ∖ R) ∪ I) v) (put I sub e)))))
      go (no few) = let l : size R < k = omega (arith, few) in rw (lt-ltb (size R) k l) (marks-reach live h held)

-- ---- the larger of a figure and the count

module _ {t : List Float} {rows columns k live passed : ℕ} {v : Float} {bound : ℕ} (m : Raising t rows columns k live passed v bound) where
  abbrev L : Columns
  L = columns_of columns live

  abbrev R : Columns
  R = columns_of columns passed

  abbrev X : List (List Float)
  X = rows_of rows columns t

  among : columns_of columns passed ⊆ columns_of columns live
  among = ⊆-by R L (columns_of-length columns passed ∙ sym (columns_of-length columns live)) m.inside

  sounds : Sound columns (rows_of rows columns t)
  sounds = rows_of-sound rows columns t m.ready.full m.ready.finitely

  pub raising-counts : (k ≡ 1 → ⊥) → (ms : List ℕ) → length ms ≤ 4096 → Countable ms columns k live passed
  raising-counts f ms h = record {
    cols-most = m.ready.cols-most;
    marks-most = h;
    k-many = omega (arith, f, m.ready.k-some);
    k-most = m.ready.k-most;
    live-fits = m.live-fits;
    passed-fits = m.passed-fits;
    inside = m.inside;
  }

  module _ (figure : ℕ) where
    pub raised-one : (r : ℕ) → k ≡ 1 → r ≡ max figure bound → r ≡ max figure (needed k (rows_of rows columns t) (columns_of columns live) (columns_of columns passed) v)
    raised-one r z e = e ∙ ap (max figure) (m.bounded ∙ sym (needed-one X L R v among) ∙ ap (λ (j : ℕ). needed j X L R v) (sym z))

    pub raised-bounded : k ≤ size (columns_of columns passed) → bound ≤ figure → figure ≡ max figure (needed k (rows_of rows columns t) (columns_of columns live) (columns_of columns passed) v)
    raised-bounded many low = omega (arith, m.bounded, needed-bound k X L R v (subst (λ (n : ℕ). Sound n X) (sym (columns_of-length columns live)) sounds) m.ready.k-some among m.left m.value many)

    pub raised-counted : (r : ℕ) (ms : List ℕ) → r ≡ max figure (needed_in k ms (columns_of columns live) (columns_of columns passed)) → ms ≡ marks_of k (λ x. at_most v x) (rows_of rows columns t)
        → r ≡ max figure (needed k (rows_of rows columns t) (columns_of columns live) (columns_of columns passed) v)
    raised-counted r ms e q = e ∙ ap (max figure) (ap (λ (l : List ℕ). needed_in k l L R) q ∙ needed-marks columns k X v sounds m.ready.cols-most m.ready.k-some m.value L R (columns_of-length columns live) m.held among m.left)
