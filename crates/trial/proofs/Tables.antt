-- Laws of a trial's table: its rows.
--   drop-take                        what is taken after so many members
--   by_offer-figures, by_offer-length  the figures of each offer, in the array, and of how many
--   entries-small, row_of-all        the entries of a row are at most 2^53, and what holds of such numbers holds of its values
--   row_of-.., trial_rows-..         how long rows are, how many, which; those of an accepted trial are finite
--   even-rows, table_of-rows         the lent table has these rows
--   row_total-some                   there is a row
--   table_of-length                  a table has M * offers places
use Prim.Native.Nat.{ℕ, zero, suc, ◌+◌, ◌*◌, ◌^◌, ◌≤◌, ◌<◌}
use native.Mathlib.Omega.{arith}
use native.Mathlib.Nat.{suc-mul}
use native.Mathlib.Decide.{dec_le}
use mathlib.Core.Path.{◌≡◌, refl, sym, ap, ap₂, ◌∙◌, subst}
use mathlib.Core.Bool.{Bool, not, ◌&&◌}
use mathlib.Core.List.{List, [], ◌∷◌, ◌++◌}
use lib.ListN.{length, get_or, take, drop, length-map, length-append, length-take, drop_of_length-le}
use lib.Seq.{drop_at, take-take, take-add, take-nil, length-take-le}
use lib.Dec.{T, eqb, leb, eqb_refl, leb→le, le→leb}
use lib.IntN.{ℤ, nat_abs}
use lib.Ieee.{Float, binary64, of_int}
use Rattle.order.specs.Order.{finite}
use Rattle.order.specs.Counting.{all}
use Rattle.order.specs.Lists.{rows_of, joined}
use Rattle.order.proofs.Booleans.{and_both, and_left, and_right}
use Rattle.order.proofs.Counts.{all_map, all-le}
use Rattle.order.proofs.Lists.{tabulate-length, tabulate-get_d, all-tabulate, all_take, all_drop, rows_of-length, rows_of-joined, joined_length}
use Rattle.order.proofs.Rows.{Sound, sound_row, sound-row}
use Rattle.refusals.proofs.Answers.{NoneHolds}
use Rattle.trial.specs.Designs.{design_checks, units_of, entry_of}
use Rattle.trial.specs.Record.{figure_count, figures_of}
use Rattle.trial.specs.Exchange.{by_offer, row_total, row_of, trial_rows, table_of}
use Rattle.trial.specs.Refusals.{bad_difference}
use Rattle.trial.specs.declared.Trial.{Trial}
use Rattle.trial.specs.declared.Design.{Design}
use Rattle.order.proofs.Whole.{whole-finite}
use Rattle.trial.proofs.Sums.{InRange, all-in-range}
use Rattle.trial.proofs.LaidOut.{entry-small}
use Rattle.trial.proofs.Accepted.{Accepted}

-- ---- figures, offer by offer

pub drop-take : {A : Type 0} (n m : ℕ) (xs : List A) → drop n (take (n + m) xs) ≡ take m (drop n xs)
drop-take n m xs = ap (drop n) (take-add n m xs) ∙ seam (dec_le n (length xs))
  where
    seam : Dec (n ≤ length xs) → drop n (take n xs ++ take m (drop n xs)) ≡ take m (drop n xs)
    seam (yes h) = drop_at (take n xs) (take m (drop n xs)) n (length-take-le n xs h)
    seam (no h) = rw (drop_of_length-le xs {i = n} (omega (arith, h)), take-nil m) (drop_of_length-le (take n xs ++ []) {i = n} (simp (length-append, length-take) (omega (arith, h))))

-- the figures that are used, offer by offer
rows_of-take : {A : Type 0} (m n : ℕ) (xs : List A) → rows_of m n (take (m * n) xs) ≡ rows_of m n xs
unfolding rows_of
rows_of-take zero n xs = refl
rows_of-take (suc m) n xs =
    ap₂ (λ (r : List _) (rs : List (List _)). r ∷ rs) (take-take n (suc m * n) xs (omega (arith, suc-mul m n)))
    (ap (rows_of m n) (ap (λ (i : ℕ). drop n (take i xs)) sum ∙ drop-take n (m * n) xs) ∙ rows_of-take m n (drop n xs))
  where
    sum : suc m * n ≡ n + m * n
    sum = omega (arith, suc-mul m n)

pub by_offer-figures : (t : Trial) → by_offer t ≡ rows_of t.shape.offers (units_of t.shape.design) t.figures
unfolding by_offer figure_count
by_offer-figures t = rows_of-take t.shape.offers (units_of t.shape.design) t.figures

pub by_offer-length : (t : Trial) → length (by_offer t) ≡ t.shape.offers
unfolding by_offer
by_offer-length t = rows_of-length t.shape.offers (units_of t.shape.design) (figures_of t)

-- an offer's figures: at most n of them, all in range
ok_offer : ℕ → List ℤ → Bool
ok_offer n ds = leb (length ds) n && all (λ d. not (bad_difference d)) ds

offers-ok : (m n : ℕ) (xs : List ℤ) → InRange (take (m * n) xs) → T (all (ok_offer n) (rows_of m n xs))
unfolding rows_of all ok_offer
offers-ok zero n xs h = tt
offers-ok (suc m) n xs h =
    and_both (ok_offer n (take n xs)) (all (ok_offer n) (rows_of m n (drop n xs)))
    (and_both (leb (length (take n xs)) n) (all (λ d. not (bad_difference d)) (take n xs)) (le→leb (length (take n xs)) n (simp length-take (omega arith)))
    (subst (λ (l : List ℤ). InRange l) (take-take n (suc m * n) xs (omega (arith, suc-mul m n))) (all_take (λ d. not (bad_difference d)) n (take (suc m * n) xs) h)))
    (offers-ok m n (drop n xs) (subst (λ (l : List ℤ). InRange l) rest (all_drop (λ d. not (bad_difference d)) n (take (suc m * n) xs) h)))
  where
    sum : suc m * n ≡ n + m * n
    sum = omega (arith, suc-mul m n)

    rest : drop n (take (suc m * n) xs) ≡ take (m * n) (drop n xs)
    rest = ap (λ (i : ℕ). drop n (take i xs)) sum ∙ drop-take n (m * n) xs

used-twice : (t : Trial) → take (t.shape.offers * units_of t.shape.design) (figures_of t) ≡ figures_of t
unfolding figure_count
used-twice t = take-take (figure_count t.shape) (figure_count t.shape) t.figures (omega arith)

-- ---- the rows

pub row_of-length : (t : Trial) (g : ℕ) → length (row_of t g) ≡ t.shape.offers
unfolding row_of
row_of-length t g = length-map (by_offer t) (λ xs. of_int binary64 (entry_of t.shape.design g xs)) ∙ by_offer-length t

ok-small : (d : Design) (g : ℕ) (xs : List ℤ) → NoneHolds (design_checks d) → T (ok_offer (units_of d) xs) → nat_abs (entry_of d g xs) ≤ 2 ^ 53
unfolding ok_offer
ok-small d g xs h t =
    let n = units_of d in
    entry-small d g xs h (leb→le (length xs) n (and_left (leb (length xs) n) (all (λ d. not (bad_difference d)) xs) t)) (all-in-range xs (and_right (leb (length xs) n) (all (λ d. not (bad_difference d)) xs) t))

-- the entries of a row are small
pub entries-small : (t : Trial) (g : ℕ) → Accepted t → T (all (λ xs. leb (nat_abs (entry_of t.shape.design g xs)) (2 ^ 53)) (by_offer t))
unfolding by_offer
entries-small t g acc =
    let d = t.shape.design in
    all-le (ok_offer (units_of d)) (λ xs. leb (nat_abs (entry_of d g xs)) (2 ^ 53)) (by_offer t) (λ xs u. le→leb (nat_abs (entry_of d g xs)) (2 ^ 53) (ok-small d g xs acc.layout-good u))
    (offers-ok t.shape.offers (units_of d) (figures_of t) (subst (λ (l : List ℤ). InRange l) (sym (used-twice t)) acc.in-range))

-- what holds of every whole number up to 2^53 as an f64 holds of a row's values
pub row_of-all : (p : Float → Bool) → ((z : ℤ) → nat_abs z ≤ 2 ^ 53 → T (p (of_int binary64 z))) → (t : Trial) (g : ℕ) → Accepted t → T (all p (row_of t g))
unfolding row_of
row_of-all p h t g acc =
    let f = entry_of t.shape.design g in
    rw (all_map (λ xs. of_int binary64 (f xs)) p (by_offer t))
    (all-le (λ xs. leb (nat_abs (f xs)) (2 ^ 53)) (λ xs. p (of_int binary64 (f xs))) (by_offer t) (λ xs u. h (f xs) (leb→le (nat_abs (f xs)) (2 ^ 53) u)) (entries-small t g acc))

pub row_of-sound : (t : Trial) (g : ℕ) → Accepted t → T (sound_row t.shape.offers (row_of t g))
row_of-sound t g acc = sound-row t.shape.offers (row_of t g) (row_of-length t g) (row_of-all finite whole-finite t g acc)

pub trial_rows-length : (t : Trial) → length (trial_rows t) ≡ row_total t
unfolding trial_rows
trial_rows-length t = tabulate-length (row_total t) _

pub trial_rows-row : (t : Trial) (g : ℕ) → g < row_total t → get_or (trial_rows t) g [] ≡ row_of t g
unfolding trial_rows
trial_rows-row t g h = tabulate-get_d (row_total t) (λ g. row_of t g) g [] h

pub trial_rows-sound : (t : Trial) → Accepted t → Sound t.shape.offers (trial_rows t)
unfolding trial_rows
trial_rows-sound t acc = all-tabulate (sound_row t.shape.offers) (row_total t) (λ g. row_of t g) (λ g. row_of-sound t g acc)

pub even-rows : (t : Trial) → T (all (λ r. eqb (length r) t.shape.offers) (trial_rows t))
unfolding trial_rows
even-rows t = all-tabulate (λ r. eqb (length r) t.shape.offers) (row_total t) (λ g. row_of t g) (λ g. subst (λ (n : ℕ). T (eqb n t.shape.offers)) (sym (row_of-length t g)) (eqb_refl t.shape.offers))

-- the lent table has these rows
pub table_of-rows : (t : Trial) → rows_of (row_total t) t.shape.offers (table_of t) ≡ trial_rows t
unfolding table_of
table_of-rows t =
    ap (λ (m : ℕ). rows_of m t.shape.offers (joined (trial_rows t))) (sym (trial_rows-length t))
    ∙ rows_of-joined t.shape.offers (trial_rows t) (even-rows t)

pub row_total-some : (t : Trial) → Accepted t → 0 < row_total t
unfolding row_total
row_total-some t acc = acc.laid.rows-some

pub table_of-length : (t : Trial) → length (table_of t) ≡ row_total t * t.shape.offers
unfolding table_of
table_of-length t = joined_length t.shape.offers (trial_rows t) (even-rows t) ∙ ap (λ (m : ℕ). m * t.shape.offers) (trial_rows-length t)
