-- A critical value with its set and its row.
--   best_in, bar_in b  the largest critical value of a branch's sets, with its set, and with its row too
--   risen-best         the start of the walk makes no difference
--   alone-bar          of one set
--   branch-ready, branch-bar     of the sets of a branch: what its set is known to be, and all of it
--   one-some, put_some     there is a set
--   one-bar, left-bar, put-bar   where the branch is one set; the columns left, with k = 1; all choices
use Prim.Native.Nat.{ℕ, ◌-◌, ◌^◌, ◌≤◌, ◌<◌}
use native.Mathlib.Omega.{arith}
use mathlib.Core.Path.{◌≡◌, refl, sym, ap, ap₂, ◌∙◌, subst}
use mathlib.Core.Bool.{true, ◌&&◌}
use mathlib.Core.List.{List, [], ◌∷◌, map}
use lib.ListN.{length, get_or, length-map}
use lib.Dec.{T, eqb, leb, eqb→eq, leb→le, le→leb}
use lib.Ieee.{Float, inf}
use borrow.Author.Tests.{eq-eqb}
use Rattle.order.specs.Order.{finite, low, smaller, equal}
use Rattle.order.specs.Lists.{rows_of, first_at}
use Rattle.order.proofs.Booleans.{and_left, and_right, and_both, true-T}
use Rattle.order.proofs.Counts.{all_get_d, all_true}
use Rattle.order.proofs.Firsts.{first-same}
use Rattle.order.proofs.Keys.{key, equal_is}
use Rattle.order.proofs.Rows.{Sound, rows_of-sound}
use Rattle.columns.specs.Columns.{Columns, size, ◌∪◌, choose, columns_of, mask_of}
use Rattle.columns.proofs.Masks.{columns_of-mask_of, mask_of-columns_of}
use Rattle.columns.proofs.PutBack.{choose-some}
use Rattle.method.specs.Method.{critical_value, put_back}
use Rattle.method.specs.Bars.{bar_set, bar_row}
use Rattle.method.proofs.Critical.{critical_value-plain}
use Rattle.method.proofs.Bars.{alone-set}
use Rattle.masks.specs.Internal.{CheckedTable}
use Rattle.critical.specs.Internal.{found_of}
use Rattle.critical.specs.declared.quantile.Found.{Found}
use Rattle.putback.specs.Internal.{At, better, best_of, bar_of, sets_of}
use Rattle.putback.specs.declared.Bar.{Bar}
use Rattle.putback.specs.declared.branch.Branch.{Branch}
use Rattle.putback.specs.declared.walk.Best.{Best}
use Rattle.putback.proofs.Better.{better-value}
use Rattle.putback.proofs.Branches.{sets-each, sets-all, sets-leaf}
use Rattle.putback.proofs.PutBackValue.{values-finite, best-member, lowest-under, put-back-value, one_value, one_left}
use Rattle.putback.proofs.FirstBest.{key_place, better-first, first-there, same_start}

-- there is a set where nothing is put back, and where k - 1 columns can be
pub one-some : (cols set : ℕ) → 0 < length (sets_of cols (record { set = set; rest = 0; from = 0; left = 0 }))
one-some cols set = omega (arith, ap length (sets-leaf cols (record { set = set; rest = 0; from = 0; left = 0 }) (omega arith) refl))

pub put_some : (cols k remaining rejected : ℕ) → k - 1 ≤ size (columns_of cols rejected) → 0 < length (sets_of cols (record { set = remaining; rest = rejected; from = 0; left = k - 1 }))
put_some cols k remaining rejected h = omega (arith, ap length (sets-all cols remaining rejected (k - 1)), length-map (choose (k - 1) (columns_of cols rejected)) (λ I. columns_of cols remaining ∪ I), choose-some (k - 1) (columns_of cols rejected) h)

module _ {t : List Float} {rows cols k : ℕ} (e : ℕ) (r : CheckedTable t rows cols k) where
  abbrev pub X : List (List Float)
  X = rows_of rows cols t

  abbrev pub value : Columns → Float
  value K = critical_value k e X K

  -- of the sets of a branch: the largest critical value with its set, and with its row too
  abbrev pub best_in : Branch → Best
  best_in b = better value (record { value = inf true; set = b.set }) (sets_of cols b)

  abbrev pub bar_in : Branch → Bar
  bar_in b = bar_of k e X (sets_of cols b) (best_of (inf true) (map value (sets_of cols b)))

  sound : Sound cols X
  sound = rows_of-sound rows cols t r.full r.finitely

  -- from a bound below it, and from minus infinity
  pub risen-best : (b : Branch) (v : Float) (x : Best) → T (low v) → smaller v x.value ≡ true → x ≡ better value (record { value = v; set = b.set }) (sets_of cols b) → x ≡ best_in b
  risen-best b v x l up q =
      q ∙ same_start value (values-finite cols k e X sound) (λ K. critical_value-plain k e X K) v b.set (sets_of cols b) l (subst (λ (y : Best). smaller v y.value ≡ true) q up)

  pub alone-bar : (set : ℕ) (c : Found) → set < 2 ^ cols → c ≡ found_of k e X (columns_of cols set) → record { value = c.value; set = set; row = c.row } ≡ bar_of k e X (columns_of cols set ∷ []) (value (columns_of cols set))
  unfolding bar_of found_of
  alone-bar set c h q =
      let K = columns_of cols set in
      let v = critical_value k e X K in
      ap (λ (x : Found). record { value = x.value; set = set; row = x.row }) q
      ∙ ap (λ (n : ℕ). record { value = v; set = n; row = bar_row k X K v }) (sym (mask_of-columns_of cols set h))
      ∙ ap (λ (L : Columns). record { value = v; set = mask_of L; row = bar_row k X L v }) (sym (alone-set cols k e X K sound v refl))

  -- ---- the sets of a branch

  module _ (b : Branch) (a : At cols k b) (some : 0 < length (sets_of cols b)) (h : Best) (q : h ≡ best_in b) where
    abbrev Ks : List Columns
    Ks = sets_of cols b

    abbrev start : Best
    start = record { value = inf true; set = b.set }

    fin : (K : Columns) → T (finite (value K))
    fin = values-finite cols k e X sound

    value-is : h.value ≡ best_of (inf true) (map value Ks)
    value-is = ap (λ (x : Best). x.value) q ∙ better-value value start Ks

    up : key (inf true) < key (better value start Ks).value
    up = subst (λ (x : Float). key (inf true) < key x) (sym (better-value value start Ks)) (lowest-under value fin Ks (omega (arith, length-map Ks value)))

    value-finite : T (finite h.value)
    value-finite = subst (λ (x : Float). T (finite x)) (sym value-is) (best-member value (λ x. T (finite x)) (inf true) Ks (subst (λ (x : Float). key (inf true) < key x) (better-value value start Ks) up) fin)

    -- the place of its key is that of the value
    same_place : key_place value fin (key (better value start Ks).value) Ks ≡ first_at (λ K. equal h.value (value K)) Ks
    same_place =
        ap (λ (x : Best). first_at (λ K. eqb (key x.value) (key (value K))) Ks) (sym q)
        ∙ first-same (λ _. true) (λ K. eqb (key h.value) (key (value K))) (λ K. equal h.value (value K)) Ks (λ K _. sym (equal_is h.value (value K) value-finite (fin K))) (all_true Ks)

    -- the set that is told
    abbrev K : Columns
    K = bar_set k e X Ks h.value

    held : h.set ≡ mask_of K
    unfolding bar_set
    held = ap (λ (x : Best). x.set) (q ∙ better-first value fin start Ks tt up) ∙ ap (λ (i : ℕ). mask_of (get_or Ks i [])) same_place

    -- it is one of them
    member : T (eqb (length K) cols && leb k (size K))
    unfolding bar_set
    member =
        all_get_d (λ K. eqb (length K) cols && leb k (size K)) Ks (first_at (λ K. equal h.value (value K)) Ks) [] (omega (arith, sym same_place, first-there value fin start Ks tt up))
        (sets-each a (λ K. eqb (length K) cols && leb k (size K)) (λ K m. and_both (eqb (length K) cols) (leb k (size K)) (true-T (eqb (length K) cols) (eq-eqb (length K) cols m.whole)) (le→leb k (size K) m.wide)))

    columns-are : columns_of cols h.set ≡ K
    columns-are = ap₂ (λ (n m : ℕ). columns_of n m) (sym (eqb→eq (length K) cols (and_left (eqb (length K) cols) (leb k (size K)) member))) held ∙ columns_of-mask_of K

    pub branch-ready : T (finite h.value) × (k ≤ size (columns_of cols h.set))
    branch-ready = (value-finite, let w = leb→le k (size K) (and_right (eqb (length K) cols) (leb k (size K)) member) in subst (λ (L : Columns). k ≤ size L) (sym columns-are) w)

    pub branch-bar : (row : ℕ) → row ≡ bar_row k X (columns_of cols h.set) h.value → record { value = h.value; set = h.set; row = row } ≡ bar_in b
    unfolding bar_of
    branch-bar row l =
        ap₂ (λ (s g : ℕ). record { value = h.value; set = s; row = g }) held (l ∙ ap (λ (L : Columns). bar_row k X L h.value) columns-are)
        ∙ ap (λ (v : Float). bar_of k e X Ks v) value-is

  -- ---- which sets there are

  pub one-bar : (set : ℕ) {x : Bar} → x ≡ bar_in (record { set = set; rest = 0; from = 0; left = 0 }) → x ≡ bar_of k e X (columns_of cols set ∷ []) (value (columns_of cols set))
  one-bar set q = q ∙ ap₂ (λ (Ls : List Columns) (v : Float). bar_of k e X Ls v) (sets-leaf cols (record { set = set; rest = 0; from = 0; left = 0 }) (omega arith) refl) (one_value e r set refl)

  module _ (remaining rejected : ℕ) where
    abbrev branch : Branch
    branch = record { set = remaining; rest = rejected; from = 0; left = k - 1 }

    pub put-bar : {x : Bar} → k - 1 ≤ size (columns_of cols rejected) → x ≡ bar_in (record { set = remaining; rest = rejected; from = 0; left = k - 1 })
        → x ≡ bar_of k e X (map (λ I. columns_of cols remaining ∪ I) (choose (k - 1) (columns_of cols rejected))) (put_back k e X (columns_of cols remaining) (columns_of cols rejected))
    put-bar h q = q ∙ ap₂ (λ (Ls : List Columns) (v : Float). bar_of k e X Ls v) (sets-all cols remaining rejected (k - 1)) (put-back-value e r remaining rejected h refl)

    -- with k = 1 the columns left are the one set
    pub left-bar : {x : Bar} → k ≡ 1 → x ≡ bar_of k e X (columns_of cols remaining ∷ []) (value (columns_of cols remaining))
        → x ≡ bar_of k e X (map (λ I. columns_of cols remaining ∪ I) (choose (k - 1) (columns_of cols rejected))) (put_back k e X (columns_of cols remaining) (columns_of cols rejected))
    left-bar one q = q ∙ ap₂ (λ (Ls : List Columns) (v : Float). bar_of k e X Ls v) (sym (sets-leaf cols branch (omega arith) (omega arith)) ∙ sets-all cols remaining rejected (k - 1)) (one_left e r remaining rejected one refl)
