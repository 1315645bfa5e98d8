-- The conditions of 14 clause by clause, and what a run that has passed them is known to be.
--   any_at, any_none       a clause holds, or none does
--   ended-at-start, ended-later, none_left     whether a clause holds, where the earlier ones don't
--   Figures, figures       what it is for a run's own figures to be good
--   Progress, progress     what is known of a run that is not spoiled and has not ended
use Prim.Native.Nat.{ℕ, zero, suc, ◌*◌, ◌^◌, ◌≤◌, ◌<◌}
use native.Mathlib.Omega.{arith}
use mathlib.Core.Path.{◌≡◌, refl, sym, ap, ap₂, ◌∙◌}
use mathlib.Core.Bool.{Bool, true, false, not, ◌&&◌, ◌||◌, true≢false}
use mathlib.Core.List.{List, [], ◌∷◌}
use lib.ListN.{get_or}
use lib.Dec.{ltb, leb, eqb}
use lib.Pow.{pow_pos}
use borrow.Author.Tests.{lt-ltb, le-ltb, lt-leb, eq-eqb, ne_eqb, ltb-false, leb-false, eqb-true}
use Rattle.refusals.specs.Limits.{bad_level}
use Rattle.refusals.proofs.Answers.{none_first}
use Rattle.refusals.proofs.Limits.{positive, or-none, neither, Level, level}
use Rattle.columns.specs.Columns.{size, columns_of, full_mask}
use Rattle.stepdown.specs.Refusals.{bad_shape, begin_checks, begin_refusal, bad_figures, progress_clauses, any, spoiled}
use Rattle.stepdown.specs.declared.Run.{Run}
use Rattle.stepdown.proofs.Accepted.{Shape, shape}

-- ---- clauses

any_at : (bs : List Bool) (i : ℕ) → get_or bs i false ≡ true → true ≡ any bs
unfolding any
any_at [] i h = sym h
any_at (b ∷ bs) zero h = ap (λ (c : Bool). c || any bs) (sym h)
any_at (b ∷ bs) (suc i) h = sym (late b) ∙ ap (λ (c : Bool). b || c) (any_at bs i h)
  where
    late : (b : Bool) → (b || true) ≡ true
    late true = refl
    late false = refl

-- none holds exactly where each does not
abbrev Each : List Bool → Type 0
Each [] = Unit {0}
Each (b ∷ bs) = (b ≡ false) × Each bs

any_none : (bs : List Bool) → Each bs → any bs ≡ false
unfolding any
any_none [] h = refl
any_none (b ∷ bs) h = neither h.0 (any_none bs h.1)

none_any : (bs : List Bool) → any bs ≡ false → Each bs
unfolding any
none_any [] h = tt
none_any (b ∷ bs) h = let f = or-none b (any bs) h in (f.0, none_any bs f.1)

both_true : {a b : Bool} → a ≡ true → b ≡ true → (a && b) ≡ true
both_true e f = rw (e, f)

left-off : {a : Bool} (b : Bool) → a ≡ false → (a && b) ≡ false
left-off b e = rw e

right-off : (a : Bool) {b : Bool} → b ≡ false → (a && b) ≡ false
right-off true f = f
right-off false f = refl

-- ---- how far the run has got

module _ (r : Run) where
  abbrev n : ℕ
  n = size (columns_of r.columns r.rejected)

  -- the answer where no earlier clause holds
  module _ (m : ℕ) (e : m ≡ full_mask r.columns) (a : r.rejected ≤ m) (b : r.steps ≤ 32) where
    inside : leb (2 ^ r.columns) r.rejected ≡ false
    inside = lt-leb (2 ^ r.columns) r.rejected (omega (arith, pow_pos r.columns))

    pub ended-at-start : r.steps ≡ 0 → r.rejected ≡ 0 → r.ended ≡ any (progress_clauses r)
    unfolding progress_clauses
    ended-at-start z y = go r.ended refl
      where
        go : (d : Bool) → r.ended ≡ d → r.ended ≡ any (progress_clauses r)
        go true d = d ∙ any_at (progress_clauses r) 3 (both_true (eq-eqb r.steps 0 z) d)
        go false d = d ∙ sym (any_none (progress_clauses r) (
          inside,
          (
            le-ltb 32 r.steps b,
            (
              right-off (eqb r.steps 0) (ap not (eq-eqb r.rejected 0 y)),
              (
                right-off (eqb r.steps 0) d,
                (
                  right-off (not r.ended) (le-ltb n r.steps (omega arith)),
                  (
                    right-off (not r.ended) (left-off (ltb n r.k) (le-ltb 0 r.steps (omega arith))),
                    (
                      right-off (not r.ended) (left-off (leb r.columns n) (le-ltb 0 r.steps (omega arith))),
                      tt,
                    ),
                  ),
                ),
              ),
            ),
          ),
        ))

    module _ (s : r.steps ≡ 0 → ⊥) where
      pub ended-later : r.ended ≡ true → false ≡ any (progress_clauses r)
      unfolding progress_clauses
      ended-later d = sym (any_none (progress_clauses r) (
        inside,
        (
          le-ltb 32 r.steps b,
          (
            left-off (not (eqb r.rejected 0)) (ne_eqb r.steps 0 s),
            (
              left-off r.ended (ne_eqb r.steps 0 s),
              (
                left-off (ltb n r.steps) (ap not d),
                (
                  left-off (ltb 0 r.steps && ltb n r.k) (ap not d),
                  (
                    left-off (ltb 0 r.steps && leb r.columns n) (ap not d),
                    tt,
                  ),
                ),
              ),
            ),
          ),
        ),
      ))

      pub none_left : r.ended ≡ false → (q : ℕ) → q ≡ n → r.steps ≤ q → r.k ≤ q → leb r.columns q ≡ any (progress_clauses r)
      unfolding progress_clauses
      none_left d q c f g = go (leb r.columns q) refl
        where
          go : (x : Bool) → leb r.columns q ≡ x → leb r.columns q ≡ any (progress_clauses r)
          go true x = x ∙ any_at (progress_clauses r) 6 (both_true (ap not d) (both_true (lt-ltb 0 r.steps (positive r.steps s)) (ap (leb r.columns) (sym c) ∙ x)))
          go false x = x ∙ sym (any_none (progress_clauses r) (
            inside,
            (
              le-ltb 32 r.steps b,
              (
                left-off (not (eqb r.rejected 0)) (ne_eqb r.steps 0 s),
                (
                  left-off r.ended (ne_eqb r.steps 0 s),
                  (
                    right-off (not r.ended) (le-ltb n r.steps (omega arith)),
                    (
                      right-off (not r.ended) (right-off (ltb 0 r.steps) (le-ltb n r.k (omega arith))),
                      (
                        right-off (not r.ended) (right-off (ltb 0 r.steps) (ap (leb r.columns) (sym c) ∙ x)),
                        tt,
                      ),
                    ),
                  ),
                ),
              ),
            ),
          ))

  -- what is known of a run that has not ended where none of these clauses holds
  pub record Progress : Type 0 where
    pub fits : r.rejected < 2 ^ r.columns
    pub steps-most : r.steps ≤ 32
    pub fresh : r.steps ≡ 0 → r.rejected ≡ 0
    pub behind : r.steps ≤ size (columns_of r.columns r.rejected)
    pub many : 0 < r.steps → r.k ≤ size (columns_of r.columns r.rejected)
    pub room : 0 < r.steps → size (columns_of r.columns r.rejected) < r.columns

  pub progress : any (progress_clauses r) ≡ false → r.ended ≡ false → Progress
  unfolding progress_clauses
  progress h d =
      let f = none_any (progress_clauses r) h in
      let begun : 0 < r.steps → ltb 0 r.steps ≡ true = λ p. lt-ltb 0 r.steps p in
      record {
        fits = leb-false (2 ^ r.columns) r.rejected f.0;
        steps-most = ltb-false 32 r.steps f.1.0;
        fresh = λ z. nothing (eqb r.rejected 0) (eqb-true r.rejected 0) (ap (λ (x : Bool). x && not (eqb r.rejected 0)) (sym (eq-eqb r.steps 0 z)) ∙ f.1.1.0);
        behind = ltb-false n r.steps (ap (λ (x : Bool). not x && ltb n r.steps) (sym d) ∙ f.1.1.1.1.0);
        many = λ p. ltb-false n r.k (ap₂ (λ (x y : Bool). not x && (y && ltb n r.k)) (sym d) (sym (begun p)) ∙ f.1.1.1.1.1.0);
        room = λ p. leb-false r.columns n (ap₂ (λ (x y : Bool). not x && (y && leb r.columns n)) (sym d) (sym (begun p)) ∙ f.1.1.1.1.1.1.0);
      }
    where
      nothing : (x : Bool) → (x ≡ true → r.rejected ≡ 0) → (true && not x) ≡ false → r.rejected ≡ 0
      nothing true f e = f refl
      nothing false f e = absurd (true≢false e)

-- ---- its own figures

module _ (r : Run) where
  pub record Figures : Type 0 where
    pub shaped : Shape r.rows r.columns r.k
    pub levelled : Level r.a r.b
    pub seen : r.observed < r.rows

  pub figures : bad_figures r ≡ false → Figures
  unfolding bad_figures
  figures h =
      let f = or-none (bad_shape r.rows r.columns r.k) (bad_level r.a r.b || leb r.rows r.observed) h in
      let g = or-none (bad_level r.a r.b) (leb r.rows r.observed) f.1 in
      record { shaped = shape r.rows r.columns r.k f.0; levelled = level r.a r.b g.0; seen = leb-false r.rows r.observed g.1 }

  pub rows_most : bad_figures r ≡ false → r.rows ≤ 4096
  rows_most h = (figures h).shaped.rows-most

  pub columns_most : bad_figures r ≡ false → r.columns ≤ 32
  columns_most h = (figures h).shaped.columns-most

  pub level_good : bad_figures r ≡ false → bad_level r.a r.b ≡ false
  unfolding bad_figures
  level_good h = (or-none (bad_level r.a r.b) (leb r.rows r.observed) (or-none (bad_shape r.rows r.columns r.k) (bad_level r.a r.b || leb r.rows r.observed) h).1).0

  pub figures-none : bad_figures r ≡ false → begin_refusal r.rows r.columns r.k r.a r.b r.observed ≡ 0
  unfolding bad_figures begin_refusal
  figures-none h =
      let f = or-none (bad_shape r.rows r.columns r.k) (bad_level r.a r.b || leb r.rows r.observed) h in
      let g = or-none (bad_level r.a r.b) (leb r.rows r.observed) f.1 in
      none_first (begin_checks r.rows r.columns r.k r.a r.b r.observed) (f.0, (g.0, (g.1, tt)))

  pub spoiled-else : (b : Bool) → bad_figures r ≡ false → b ≡ any (progress_clauses r) → b ≡ spoiled r
  unfolding spoiled
  spoiled-else b h e = e ∙ ap (λ (x : Bool). x || any (progress_clauses r)) (sym h)

  pub spoiled-none : spoiled r ≡ false → (bad_figures r ≡ false) × (any (progress_clauses r) ≡ false)
  unfolding spoiled
  spoiled-none h = or-none (bad_figures r) (any (progress_clauses r)) h

  -- a table of its size fits a usize
  pub size_fits : spoiled r ≡ false → r.rows * r.columns < 2 ^ 64
  unfolding bad_figures
  size_fits h = Rattle.stepdown.proofs.Accepted.size_fits r.rows r.columns r.k (or-none (bad_shape r.rows r.columns r.k) (bad_level r.a r.b || leb r.rows r.observed) (spoiled-none h).0).0
