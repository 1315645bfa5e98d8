-- Demand 3 for tables.
--   in_all              a set of columns is among all
--   tables              for full runs of tables that agree with t on the idle columns
--   balanced-tables     for balanced full runs of such tables
use Prim.Native.Nat.{ℕ, ◌≤◌, ◌<◌}
use native.Mathlib.Omega.{arith}
use mathlib.Core.Path.{◌≡◌, refl, sym, ap, ◌∙◌, subst}
use mathlib.Core.Bool.{Bool, false}
use mathlib.Core.List.{List, []}
use lib.ListN.{length, get_or, length-replicate}
use lib.Dec.{T}
use lib.Ieee.{Float, nan}
use Rattle.order.specs.Lists.{tabulate, rows_of}
use Rattle.order.proofs.Counts.{all_get_d}
use Rattle.order.proofs.Keys.{equal-key}
use Rattle.order.proofs.Lists.{tabulate-length, tabulate-get_d, rows_of-length, row-entry}
use Rattle.order.proofs.Rows.{sound_row, sound-length, sound-at}
use Rattle.refusals.specs.Limits.{allowance}
use Rattle.columns.specs.Columns.{Columns, every_column, columns_of, full_mask}
use Rattle.columns.proofs.Sets.{has-length, ◌⊆◌, ⊆-by, has_all}
use Rattle.columns.proofs.Masks.{full-columns}
use Rattle.runs.specs.Stepdown.{Outcome}
use Rattle.runs.specs.Tables.{table_run}
use Rattle.stepdown.specs.Refusals.{table_refusal}
use Rattle.stepdown.proofs.Accepted.{Accepted, accepted, accepted-sound, accepted-rare}
use Rattle.tablebalance.specs.Answers.{balanced_run}
use Rattle.tablebalance.proofs.Accepted.{few-rows}
use Rattle.tablebalance.proofs.Counted.{balanced_run-rows}
use Rattle.control.proofs.General.{keys_at, Member, Family, general, counted}
use Rattle.control.proofs.Balanced.{balanced-family}
use Rattle.control.proofs.Reorder.{keys-same, reordered}
use Rattle.control.specs.Statements.{runs_that_reject, entry, SameOn}

pub in_all : (n : ℕ) (idle : ℕ → Bool) → tabulate n idle ⊆ columns_of n (full_mask n)
in_all n idle = subst (λ (L : Columns). tabulate n idle ⊆ L) (sym (full-columns n))
    (⊆-by (tabulate n idle) (every_column n) (tabulate-length n idle ∙ sym (length-replicate n _))
    (λ j t. subst (λ (b : Bool). T b) (sym (has_all n j (omega (arith, has-length (tabulate n idle) j t, tabulate-length n idle)))) tt))

module _ (rows columns k a b : ℕ) (t : List Float) (idle : ℕ → Bool) (runs : ℕ → List Float) where
  module _ (w : List Float) (o : ℕ) (acc : Accepted w rows columns k a b o) (h : ℕ) (l : h < rows) where
    row-sound : T (sound_row columns (get_or (rows_of rows columns w) h []))
    row-sound = all_get_d (sound_row columns) (rows_of rows columns w) h [] (omega (arith, rows_of-length rows columns w)) (accepted-sound w rows columns k a b o acc)

    row-width : length (get_or (rows_of rows columns w) h []) ≡ columns
    row-width = sound-length columns (get_or (rows_of rows columns w) h []) row-sound

  -- the idle rows of a table that agrees with t on the idle columns
  idle-row : (u : List Float) (o p : ℕ) → Accepted t rows columns k a b o → Accepted u rows columns k a b p → SameOn idle rows columns t u
      → (h : ℕ) → h < rows → keys_at (tabulate columns idle) (get_or (rows_of rows columns u) h []) ≡ keys_at (tabulate columns idle) (get_or (rows_of rows columns t) h [])
  unfolding entry
  idle-row u o p acc acc' same h l =
      keys-same (tabulate columns idle) (get_or (rows_of rows columns u) h []) (get_or (rows_of rows columns t) h []) (row-width u p acc' h l ∙ sym (row-width t o acc h l))
      (λ j i q. let m : j < columns = omega (arith, row-width u p acc' h l) in
      equal-key (get_or (get_or (rows_of rows columns u) h []) j nan) (get_or (get_or (rows_of rows columns t) h []) j nan) (sound-at columns (get_or (rows_of rows columns u) h []) j (row-sound u p acc' h l) m)
      (sound-at columns (get_or (rows_of rows columns t) h []) j (row-sound t o acc h l) m)
      (rw (row-entry u rows columns h j nan l m, row-entry t rows columns h j nan l m) (same h j l m (subst (λ (c : Bool). T c) (tabulate-get_d columns idle j false m) q))))

  module _ (o : ℕ) (ok : table_refusal t rows columns k a b o ≡ 0)
      (oks : (g : ℕ) → g < rows → table_refusal (runs g) rows columns k a b g ≡ 0)
      (same : (g : ℕ) → g < rows → SameOn idle rows columns t (runs g)) where
    acc : Accepted t rows columns k a b o
    acc = accepted t rows columns k a b o ok

    table-member : (g : ℕ) → g < rows → Member columns (rows_of rows columns t) idle (full_mask columns) (rows_of rows columns (runs g)) g g
    table-member g l = record {
      sound = accepted-sound (runs g) rows columns k a b g own;
      tall = level;
      lives = in_all columns idle;
      seen = omega (arith, rows_of-length rows columns (runs g));
      rows = reordered (rows_of rows columns t) (rows_of rows columns (runs g)) (tabulate columns idle) (λ h. h) (λ h. h) level (λ i q. q) (λ i q. refl)
          (λ h q. idle-row (runs g) o g acc own (same g l) h (omega (arith, rows_of-length rows columns t)));
      row = idle-row (runs g) o g acc own (same g l) g l;
    }
      where
        own : Accepted (runs g) rows columns k a b g
        own = accepted (runs g) rows columns k a b g (oks g l)

        level : length (rows_of rows columns (runs g)) ≡ length (rows_of rows columns t)
        level = rows_of-length rows columns (runs g) ∙ sym (rows_of-length rows columns t)

    table-family : Family columns k (allowance rows a b) rows (rows_of rows columns t) idle (λ _. full_mask columns) (λ g. rows_of rows columns (runs g)) (λ g. g)
    table-family = record {
      sound = accepted-sound t rows columns k a b o acc;
      tall = rows_of-length rows columns t;
      tolerance = acc.shaped.k-some;
      rare = accepted-rare t rows columns k a b o acc;
      member = table-member;
    }

    pub tables : runs_that_reject k rows idle (λ g. (table_run (runs g) rows columns k a b g).verdicts) ≤ allowance rows a b
    unfolding table_run
    tables = general table-family

    pub balanced-tables : runs_that_reject k rows idle (λ g. (balanced_run (runs g) rows columns k a b g).verdicts) ≤ allowance rows a b
    balanced-tables =
        counted k rows (allowance rows a b) idle _ _ (λ g l. ap (λ (r : Outcome). r.verdicts) (balanced_run-rows (runs g) rows columns k a b g (accepted (runs g) rows columns k a b g (oks g l)).full))
        (general (balanced-family (few-rows t rows columns k a b o acc) table-family))
