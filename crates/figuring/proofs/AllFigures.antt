-- The figures of all columns, whichever of them are live.
--   all-few      fewer than k are: each has M
--   all_pass     k or more are: the pass gives them
use Prim.Native.Nat.{ℕ, ◌≤◌, ◌<◌}
use native.Mathlib.Omega.{arith}
use mathlib.Core.Path.{◌≡◌, sym, ap, ◌∙◌}
use mathlib.Core.List.{List}
use lib.ListN.{replicate}
use lib.Ieee.{Float}
use Rattle.order.specs.Lists.{rows_of, padded}
use Rattle.order.proofs.Lists.{rows_of-length}
use Rattle.order.proofs.Rows.{rows_of-sound}
use Rattle.columns.specs.Columns.{size, columns_of}
use Rattle.adjustment.specs.Adjusted.{adjusted_figures}
use Rattle.adjustment.specs.Passes.{k_max_pass}
use Rattle.adjustment.proofs.Figures.{figures-few}
use Rattle.adjustment.proofs.Passing.{k_max_pass-agrees}
use Rattle.figuring.specs.Internal.{Passable}

module _ {t : List Float} {rows columns k observed live : ℕ} (r : Passable t rows columns k observed live) (fs : List ℕ) (n : ℕ) (counted : n ≡ size (columns_of columns live)) where
  pub all-few : n < k → fs ≡ padded 32 0 (replicate columns rows) → fs ≡ padded 32 0 (adjusted_figures (rows_of rows columns t) rows columns k observed live)
  all-few few e = e ∙ ap (padded 32 0) (sym (figures-few (rows_of rows columns t) rows columns k observed live (omega arith)))

  pub all_pass : k ≤ n → fs ≡ padded 32 0 (k_max_pass k (rows_of rows columns t) (columns_of columns live) observed) → fs ≡ padded 32 0 (adjusted_figures (rows_of rows columns t) rows columns k observed live)
  all_pass many e = e ∙ ap (padded 32 0)
      (k_max_pass-agrees (rows_of rows columns t) rows columns k observed live (rows_of-sound rows columns t r.ready.full r.ready.finitely) (sym (rows_of-length rows columns t)) r.seen r.ready.cols-most r.ready.k-some (omega arith))
