-- Adjusted figures of accepted tables: of all columns, each of them live.
--   table-law           a column's figure is at most e exactly where the method rejects it at e
--   table-length, table-most     there is a figure for each column, and it is at most M
--   table_stays         loosening: a column that is rejected at e is rejected at every larger one
--   table-k_max_pass, table-maximum_pass  both passes give the figures, the latter for k = 1
--   table-level         the full run at a level rejects a column exactly where its figure is at most the e of that level
use Prim.Native.Nat.{ℕ, ◌≤◌, ◌<◌}
use native.Mathlib.Omega.{arith}
use mathlib.Core.Path.{◌≡◌, refl, sym, ap, ◌∙◌, subst}
use mathlib.Core.Logic.{◌↔◌}
use mathlib.Core.Bool.{Bool}
use mathlib.Core.List.{List}
use lib.ListN.{length, get_or}
use lib.Dec.{T}
use lib.Ieee.{Float}
use Rattle.order.specs.Order.{plus_zero}
use Rattle.order.specs.Lists.{rows_of}
use Rattle.order.proofs.Lists.{rows_of-length}
use Rattle.refusals.specs.Limits.{allowance}
use Rattle.columns.specs.Columns.{Columns, every_column, full_mask}
use Rattle.columns.proofs.Masks.{full-columns}
use Rattle.runs.specs.Tables.{table_run}
use Rattle.runs.specs.FullRuns.{is_rejected}
use Rattle.runs.specs.declared.Verdict.TheVariants.{Kept}
use Rattle.runs.proofs.Start.{full_size}
use Rattle.stepdown.specs.Refusals.{table_refusal}
use Rattle.stepdown.proofs.Accepted as tables
use Rattle.adjustment.specs.Adjusted.{rejected_at, adjusted_figure, rejected_in, table_figures}
use Rattle.adjustment.specs.Passes.{maximum_pass, k_max_pass}
use Rattle.adjustment.proofs.Figures.{figure-law, figure-most, stays-rejected, figures-length, figures-at}
use Rattle.adjustment.proofs.Passing.{k_max_pass-agrees, maximum_pass-agrees}
use Rattle.adjustment.proofs.Accepted.{Accepted, levelled, accepted-sound}

module _ (t : List Float) (rows columns k observed : ℕ) where
  pub table-length : length (table_figures t rows columns k observed) ≡ columns
  unfolding table_figures
  table-length = figures-length (rows_of rows columns t) rows columns k observed (full_mask columns)

  figure-at : (j : ℕ) → j < columns → get_or (table_figures t rows columns k observed) j 0 ≡ adjusted_figure (rows_of rows columns t) rows columns k observed (full_mask columns) j
  unfolding table_figures
  figure-at = figures-at (rows_of rows columns t) rows columns k observed (full_mask columns)

  pub table-most : (j : ℕ) → j < columns → get_or (table_figures t rows columns k observed) j 0 ≤ rows
  table-most j h = omega (arith, figure-at j h, figure-most (rows_of rows columns t) rows columns k observed (full_mask columns) j)

  module _ (acc : Accepted t rows columns k observed) where
    tall : rows ≡ length (rows_of rows columns t)
    tall = sym (rows_of-length rows columns t)

    module _ (j : ℕ) (h : j < columns) where
      pub table_stays : (e e' : ℕ) → e ≤ e' → e' < rows → T (rejected_in t rows columns k observed e j) → T (rejected_in t rows columns k observed e' j)
      table_stays = stays-rejected (rows_of rows columns t) rows columns k observed (full_mask columns) j h (accepted-sound t rows columns k observed acc) tall acc.seen acc.shaped.columns-most acc.shaped.k-some

      pub table-law : (e : ℕ) → e < rows → (get_or (table_figures t rows columns k observed) j 0 ≤ e) ↔ T (rejected_in t rows columns k observed e j)
      table-law e rare = subst (λ (f : ℕ). (f ≤ e) ↔ T (rejected_in t rows columns k observed e j)) (sym (figure-at j h))
          (figure-law (rows_of rows columns t) rows columns k observed (full_mask columns) j h (accepted-sound t rows columns k observed acc) tall acc.seen acc.shaped.columns-most acc.shaped.k-some e rare)

    pub table-k_max_pass : k_max_pass k (rows_of rows columns t) (every_column columns) observed ≡ table_figures t rows columns k observed
    unfolding table_figures
    table-k_max_pass =
        ap (λ (K : Columns). k_max_pass k (rows_of rows columns t) K observed) (sym (full-columns columns))
        ∙ k_max_pass-agrees (rows_of rows columns t) rows columns k observed (full_mask columns) (accepted-sound t rows columns k observed acc) tall acc.seen acc.shaped.columns-most acc.shaped.k-some
        (omega (arith, full_size columns, acc.shaped.k-held))

pub table-maximum_pass : (t : List Float) (rows columns observed : ℕ) → Accepted t rows columns 1 observed → maximum_pass (rows_of rows columns t) (every_column columns) observed ≡ table_figures t rows columns 1 observed
unfolding table_figures
table-maximum_pass t rows columns observed acc =
    ap (λ (K : Columns). maximum_pass (rows_of rows columns t) K observed) (sym (full-columns columns))
    ∙ maximum_pass-agrees (rows_of rows columns t) rows columns observed (full_mask columns) (accepted-sound t rows columns 1 observed acc) (sym (rows_of-length rows columns t)) acc.seen acc.shaped.columns-most
    (omega (arith, full_size columns, acc.shaped.columns-some))

-- ---- full runs at a level

module _ (t : List Float) (rows columns k a b observed : ℕ) (ok : table_refusal t rows columns k a b observed ≡ 0) (j : ℕ) (h : j < columns) where
  run_at : rejected_in t rows columns k observed (allowance rows a b) j ≡ is_rejected (get_or (table_run t rows columns k a b observed).verdicts j (Kept plus_zero))
  unfolding table_run rejected_at
  run_at = refl

  pub table-level : (get_or (table_figures t rows columns k observed) j 0 ≤ allowance rows a b) ↔ T (is_rejected (get_or (table_run t rows columns k a b observed).verdicts j (Kept plus_zero)))
  table-level = subst (λ (c : Bool). (get_or (table_figures t rows columns k observed) j 0 ≤ allowance rows a b) ↔ T c) run_at
      (table-law t rows columns k observed (levelled t rows columns k observed a b ok) j h (allowance rows a b) (tables.accepted-rare t rows columns k a b observed (tables.accepted t rows columns k a b observed ok)))
