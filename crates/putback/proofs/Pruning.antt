-- What one look at the marks tells of a set, and of all sets of a branch.
--   kept-inside, marks-few    the marked rows are rows of the table
--   leaf-held, leaf-risen     a set that no more than e rows exceed, and one that more do
--   still-going, risen        what holds where the value stays, and once the rows are marked by its value
--   pruned                    a branch none of whose sets can rise
--   hopeless-set, hopeless-all, all-hopeless, all-few     the test by its parts; unite-is, unite-room, rest-room: the mask of all columns as it is made
use Prim.Native.Nat.{ℕ, ◌+◌, ◌-◌, ◌*◌, ◌^◌, ◌≤◌, ◌<◌}
use native.Mathlib.Omega.{arith}
use mathlib.Core.Path.{◌≡◌, sym, ap, ap₂, ◌∙◌, subst}
use mathlib.Core.Logic.{◌⊎◌, inl, inr, ⊎_elim}
use mathlib.Core.Bool.{Bool, true, false, not, ◌||◌}
use mathlib.Core.List.{List, [], ◌∷◌}
use lib.ListN.{length, take}
use lib.Dec.{T, ltb, leb, leb→le}
use lib.Seq.{length-take-le}
use lib.Ieee.{Float}
use borrow.Author.Tests.{le-leb, lt-leb}
use Rattle.order.specs.Order.{smaller}
use Rattle.order.specs.Counting.{all}
use Rattle.order.specs.Lists.{rows_of}
use Rattle.order.proofs.Booleans.{T_true, or_right}
use Rattle.order.proofs.Infinities.{finite-low}
use Rattle.order.proofs.Lists.{rows_of-length}
use Rattle.order.proofs.Rows.{Sound, rows_of-sound}
use Rattle.columns.specs.Columns.{Columns, size, columns_of}
use Rattle.columns.proofs.Masks.{columns_of-length, mask_of-columns_of}
use Rattle.method.specs.Method.{critical_value}
use Rattle.method.proofs.Critical.{critical_value-finite}
use Rattle.method.proofs.Exceeding.{exceed-yes, exceed-not}
use Rattle.masks.specs.Marks.{passes, holding, holding_columns, rows_kept, marks_at}
use Rattle.masks.proofs.Marks.{holding-columns, holding-more, holding-fewer}
use Rattle.critical.proofs.Raising.{marked-inside, marked-columns, marked-count, marked-again}
use Rattle.putback.specs.Internal.{better, sets_of, unite, hopeless_in, At, Going}
use Rattle.putback.specs.declared.branch.Branch.{Branch}
use Rattle.putback.specs.declared.walk.Held.{Held}
use Rattle.putback.proofs.Better.{better-stays, better-taken}
use Rattle.putback.proofs.Branches.{Member, sets-each, unite-lt}

module _ {t : List Float} {rows cols k allow : ℕ} {work : List Float} {kept marks : List ℕ} {h : Held} (g : Going t rows cols k allow work kept marks h) where
  abbrev X : List (List Float)
  X = rows_of rows cols t

  abbrev ms : List ℕ
  ms = take h.n marks

  abbrev c : Columns → Float
  c K = critical_value k allow (rows_of rows cols t) K

  sound : Sound cols (rows_of rows cols t)
  sound = rows_of-sound rows cols t g.ready.full g.ready.finitely

  fewer : allow < length (rows_of rows cols t)
  fewer = omega (arith, g.rare, rows_of-length rows cols t)

  pub kept-inside : T (all (λ i. ltb i rows) (take h.n kept))
  kept-inside = subst (λ (n : ℕ). T (all (λ i. ltb i n) (take h.n kept))) (rows_of-length rows cols t) (marked-inside cols k X sound g.ready.cols-most g.marked)

  pub marks-few : length (take h.n marks) ≤ 4096
  marks-few = omega (arith, length-take-le h.n marks (omega (arith, g.few, g.marks-room)), g.few, g.ready.rows-most)

  -- too few marks hold k columns of a set: it does not rise
  stays : (K : Columns) → length K ≡ cols → k ≤ size K → holding_columns k K ms ≤ allow → smaller h.best.value (c K) ≡ false
  stays K l wide q = exceed-not cols k K l g.ready.k-some wide h.best.value g.marked.floor allow X sound fewer
      (omega (arith, q, marked-columns cols k X sound g.ready.cols-most g.marked K l))

  module _ (s : ℕ) (inside : s < 2 ^ cols) (wide : k ≤ size (columns_of cols s)) (x : ℕ) (counted : x ≡ holding k s (take h.n marks)) where
    pub still-going : Going t rows cols k allow work kept marks (record { best = h.best; n = h.n; risen = false })
    still-going = record { ready = g.ready; rare = g.rare; work-room = g.work-room; kept-room = g.kept-room; marks-room = g.marks-room; few = g.few; marked = g.marked }

    pub leaf-held : x ≤ allow → h.best ≡ better (λ K. critical_value k allow (rows_of rows cols t) K) h.best (columns_of cols s ∷ [])
    unfolding all
    leaf-held q = sym (better-stays c h.best (columns_of cols s ∷ []) (rw (stays (columns_of cols s) (columns_of-length cols s) wide
        (omega (arith, counted, holding-columns cols k s ms g.ready.cols-most inside))) tt))

    module _ (q : allow < x) where
      rises : T (smaller h.best.value (c (columns_of cols s)))
      rises = exceed-yes cols k (columns_of cols s) (columns_of-length cols s) g.ready.k-some wide h.best.value g.marked.floor allow X sound fewer
          (omega (arith, counted, marked-count cols k X sound g.ready.cols-most g.marked s inside))

      pub leaf-risen : (v : Float) → v ≡ critical_value k allow (rows_of rows cols t) (columns_of cols s)
          → record { value = v; set = s } ≡ better (λ K. critical_value k allow (rows_of rows cols t) K) h.best (columns_of cols s ∷ [])
      leaf-risen v e = ap₂ (λ (y : Float) (m : ℕ). record { value = y; set = m }) e (sym (mask_of-columns_of cols s inside)) ∙ sym (better-taken c h.best (columns_of cols s) (T_true (smaller h.best.value (c (columns_of cols s))) rises))

      pub risen : (v : Float) (m : ℕ) (work' : List Float) (kept' marks' : List ℕ) → v ≡ critical_value k allow (rows_of rows cols t) (columns_of cols s)
          → length work' ≡ length work → length kept' ≡ length kept → length marks' ≡ length marks → m ≤ h.n
          → take m kept' ≡ rows_kept k (λ x. passes true v x) (rows_of rows cols t) (take h.n kept) → take m marks' ≡ marks_at (λ x. passes true v x) (rows_of rows cols t) (take m kept')
          → Going t rows cols k allow work' kept' marks' (record { best = record { value = v; set = s }; n = m; risen = true })
      risen v m work' kept' marks' e a b d l r z = record {
        ready = g.ready;
        rare = g.rare;
        work-room = omega (arith, a, g.work-room);
        kept-room = omega (arith, b, g.kept-room);
        marks-room = omega (arith, d, g.marks-room);
        few = omega (arith, l, g.few);
        marked = marked-again cols k X sound g.ready.cols-most g.marked v
            (subst (λ (y : Float). T (Rattle.order.specs.Order.low y)) (sym e) (finite-low (c (columns_of cols s)) (critical_value-finite cols k allow X (columns_of cols s) sound)))
            (subst (λ (y : Float). T (smaller h.best.value y)) (sym e) rises) (take m kept') (take m marks') r z;
      }

  -- by the columns of `set` alone, and by all columns of the branch
  pub pruned : (b : Branch) → At cols k b → T (hopeless_in k allow (take h.n marks) b) → h.best ≡ better (λ K. critical_value k allow (rows_of rows cols t) K) h.best (sets_of cols b)
  unfolding hopeless_in
  pruned b a e = sym (better-stays c h.best (sets_of cols b) (sets-each a (λ K. not (smaller h.best.value (c K))) (λ K m. falls K m (either (leb (holding (k - b.left) b.set ms) allow) (leb (holding k (unite b) ms) allow) e))))
    where
      either : (x y : Bool) → T (x || y) → T x ⊎ T y
      either true y q = inl tt
      either false y q = inr q

      by-set : (K : Columns) → Member a K → T (leb (holding (k - b.left) b.set ms) allow) → holding_columns k K ms ≤ allow
      by-set K m q = omega (
        arith,
        leb→le (holding (k - b.left) b.set ms) allow q,
        holding-columns cols (k - b.left) b.set ms g.ready.cols-most a.walk.inside,
        ap (λ (L : Columns). holding_columns k L ms) m.made,
        holding-fewer k b.left (columns_of cols b.set) m.other ms m.other_length (omega (arith, m.other-size)),
      )

      by_all : (K : Columns) → Member a K → T (leb (holding k (unite b) ms) allow) → holding_columns k K ms ≤ allow
      by_all K m q = omega (
        arith,
        leb→le (holding k (unite b) ms) allow q,
        holding-columns cols k (unite b) ms g.ready.cols-most (unite-lt a),
        holding-more k ms m.inside,
      )

      falls : (K : Columns) → Member a K → T (leb (holding (k - b.left) b.set ms) allow) ⊎ T (leb (holding k (unite b) ms) allow) → T (not (smaller h.best.value (c K)))
      falls K m o = rw (stays K m.whole m.wide (⊎_elim (by-set K m) (by_all K m) o)) tt

-- ---- the test by its parts

module _ (k e : ℕ) (ms : List ℕ) (b : Branch) (x : ℕ) (counted : x ≡ holding (k - b.left) b.set ms) where
  pub hopeless-set : x ≤ e → true ≡ hopeless_in k e ms b
  unfolding hopeless_in
  hopeless-set h = simp (le-leb (holding (k - b.left) b.set ms) e (omega (arith, counted)))

  pub hopeless-all : e < x → (y : Bool) → y ≡ leb (holding k (unite b) ms) e → y ≡ hopeless_in k e ms b
  unfolding hopeless_in
  hopeless-all h y q = simp (lt-leb (holding (k - b.left) b.set ms) e (omega (arith, counted, h))) q

-- few rows in all columns together are enough
pub all-hopeless : (k e : ℕ) (ms : List ℕ) (b : Branch) (y : Bool) → y ≡ leb (holding k (unite b) ms) e → T y → T (hopeless_in k e ms b)
unfolding hopeless_in
all-hopeless k e ms b y q t = or_right (leb (holding (k - b.left) b.set ms) e) (leb (holding k (unite b) ms) e) (subst (λ (d : Bool). T d) q t)

pub all-few : (k e : ℕ) (ms : List ℕ) (b : Branch) (y m : ℕ) → m ≡ unite b → y ≡ holding k m ms → leb y e ≡ leb (holding k (unite b) ms) e
all-few k e ms b y m u q = ap (λ (z : ℕ). leb z e) (q ∙ ap (λ (z : ℕ). holding k z ms) u)

pub unite-is : (b : Branch) (v : ℕ) → v ≡ 2 ^ b.from → b.set + b.rest * v ≡ unite b
unite-is b v e = ap (λ (z : ℕ). b.set + b.rest * z) e

pub unite-room : (b : Branch) (v : ℕ) → v ≡ 2 ^ b.from → unite b < 2 ^ 32 → b.set + b.rest * v < 2 ^ 32
unite-room b v e h = omega (arith, h, unite-is b v e)

pub rest-room : (b : Branch) (v : ℕ) → v ≡ 2 ^ b.from → unite b < 2 ^ 32 → b.rest * v < 2 ^ 32
rest-room b v e h = omega (arith, unite-room b v e h)
