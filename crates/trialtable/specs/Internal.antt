-- Definitions that only the private functions of this crate cite. Definitions only; a reader of the promises needs none of them.
--   table_for d offers xs            the table of offers whose figures stand in xs, offer by offer, in a trial that was laid out so
--   Fillable d offers xs places      that table can be made: the figures are there, in range, and so is room for it
--   begun n xs buf                   the buffer with the first n members of xs in its first places
--   taken_off d j ys                 what is taken off an offer's entries, in the rows that pair j, or shop j in the place of the one before it, makes
--   first_step d, Reached d j        the first j that makes rows; the figures that j takes off are there
--   TakenOff d offers xs off j       what j takes off each offer's entries stands in an array
--   AllTaken d offers xs off         the array has that for each j that makes rows
--   Steps d at rows j                so many rows from `at` on are those straight before them, less what j takes off
--   lowered n off from at buf        the buffer with n places from `at` on made of those from `from` on, each less its own of `off`
--   blocked n rows offers off at buf     the buffer with n rows from the row `at` on, each made of the one that stands `rows` rows before it
use Rattle.std.specs.Prelude.{ℕ, zero, suc, ◌+◌, ◌-◌, ◌*◌, ◌≤◌, ◌<◌, ◌≡◌, List, ◌++◌, map, length, get_or, take, drop, set, ℤ, pos, ◌+ℤ◌, ◌-ℤ◌, ◌*ℤ◌, Float}
use Rattle.std.specs.Float.{nan, binary64}
use Rattle.std.specs.Float.Ieee.{of_int, sub}
use Rattle.limits.specs.Limits.{offers_most, figures_most}
use Rattle.order.specs.Lists.{tabulate, rows_of, joined}
use Rattle.refusals.specs.Answers.{first_refusal}
use Rattle.trial.specs.Designs.{design_checks, units_of, row_count, entry_of}
use Rattle.trial.specs.Internal.{Ranged}
use Rattle.trial.specs.declared.Design.{Design}
use Rattle.trial.specs.declared.Design.TheVariants.{Paired, Unpaired}

unfoldable pub table_for : Design → ℕ → List ℤ → List Float
unfolding joined tabulate rows_of row_count units_of entry_of of_int
table_for d offers xs = joined (tabulate (row_count d) (λ g. map (λ ys. of_int binary64 (entry_of d g ys)) (rows_of offers (units_of d) xs)))

pub record Fillable (d : Design) (offers : ℕ) (xs : List ℤ) (places : ℕ) : Type 0 where
  pub offers-most : offers ≤ offers_most
  pub layout-good : first_refusal (design_checks d) ≡ 0
  pub held : offers * units_of d ≤ length xs
  pub ranged : Ranged (offers * units_of d) xs
  pub room : row_count d * offers ≤ places

abbrev pub begun : {A : Type 0} → ℕ → List A → List A → List A
begun n xs buf = take n xs ++ drop n buf

-- ---- rows from those before them

unfoldable pub taken_off : Design → ℕ → List ℤ → ℤ
taken_off (Paired pairs) j ys = get_or ys j (pos 0) +ℤ get_or ys j (pos 0)
taken_off (Unpaired shops treated) j ys = pos shops *ℤ (get_or ys (j - 1) (pos 0) -ℤ get_or ys j (pos 0))

unfoldable pub first_step : Design → ℕ
first_step (Paired pairs) = 0
first_step (Unpaired shops treated) = 1

abbrev pub Reached : Design → ℕ → Type 0
Reached d j = (first_step d ≤ j) × (j < units_of d)

-- in an array that has a row of `offers_most` places for each j
abbrev pub TakenOff : Design → ℕ → List ℤ → List Float → ℕ → Type 0
TakenOff d offers xs off j = (i : ℕ) → i < offers → get_or off (offers_most * j + i) nan ≡ of_int binary64 (taken_off d j (take (units_of d) (drop (i * units_of d) xs)))

pub record AllTaken (d : Design) (offers : ℕ) (xs : List ℤ) (off : List Float) : Type 0 where
  pub places : length off ≡ figures_most
  pub taken : (j : ℕ) → Reached d j → TakenOff d offers xs off j

pub record Steps (d : Design) (at rows j : ℕ) : Type 0 where
  pub reached : Reached d j
  pub before : rows ≤ at
  pub inside : at + rows ≤ row_count d
  pub entries : (h : ℕ) (ys : List ℤ) → h < rows → length ys ≡ units_of d → entry_of d (at + h) ys ≡ entry_of d (at + h - rows) ys -ℤ taken_off d j ys

-- ---- the same in a buffer

unfoldable pub lowered : ℕ → List Float → ℕ → ℕ → List Float → List Float
lowered zero off from at buf = buf
lowered (suc n) off from at buf = set (lowered n off from at buf) (at + n) (sub binary64 (get_or buf (from + n) nan) (get_or off n nan))

unfoldable pub blocked : ℕ → ℕ → ℕ → List Float → ℕ → List Float → List Float
unfolding lowered
blocked zero rows offers off at buf = buf
blocked (suc n) rows offers off at buf = lowered offers off ((at + n - rows) * offers) ((at + n) * offers) (blocked n rows offers off at buf)
