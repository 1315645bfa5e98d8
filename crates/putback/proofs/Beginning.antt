-- Before the first set: all rows are marked by the value that the walk starts from.
--   start-at, alone_at     the branch of all choices, and of one set
--   start-going      what holds of the buffers
use Prim.Native.Nat.{ℕ, ◌+◌, ◌-◌, ◌^◌, ◌≤◌, ◌<◌}
use native.Mathlib.Omega.{arith}
use mathlib.Core.Path.{◌≡◌, sym, ap, ◌∙◌}
use mathlib.Core.Bool.{true, false}
use mathlib.Core.List.{List}
use lib.ListN.{length, get_or, take}
use lib.Dec.{T}
use lib.Pow.{pow_pos}
use lib.Ieee.{Float}
use Rattle.order.specs.Order.{low}
use Rattle.order.specs.Lists.{rows_of, tabulate}
use Rattle.order.proofs.Booleans.{never}
use Rattle.order.proofs.Lists.{rows_of-length}
use Rattle.columns.specs.Columns.{size, columns_of}
use Rattle.columns.proofs.Masks.{columns_of-zero}
use Rattle.masks.specs.Internal.{CheckedTable, Walk}
use Rattle.masks.specs.Marks.{passes, rows_kept, marks_at}
use Rattle.putback.specs.Internal.{At, Going}

pub start-at : {cols k remaining rejected : ℕ} → 0 < k → Walk cols remaining rejected 0 → k ≤ size (columns_of cols remaining) + (k - 1) → At cols k (record { set = remaining; rest = rejected; from = 0; left = k - 1 })
start-at pos w m = record { walk = w; many = m; fewer = omega arith }

pub alone_at : {cols k set : ℕ} → 0 < k → set < 2 ^ cols → k ≤ size (columns_of cols set) → At cols k (record { set = set; rest = 0; from = 0; left = 0 })
alone_at {cols} {k} {set} pos h m = record {
  walk = record { place = omega arith; inside = h; rests = pow_pos (cols - 0); apart = λ j t. absurd (never (get_or (columns_of (cols - 0) 0) j false) (columns_of-zero (cols - 0) j) t) };
  many = omega arith;
  fewer = pos;
}

pub start-going : (t : List Float) (rows cols k allow : ℕ) (work : List Float) (kept marks : List ℕ) (v : Float) (s n : ℕ) → CheckedTable t rows cols k → allow < rows → rows ≤ length work → rows ≤ length kept → rows ≤ length marks → T (low v) → n ≤ rows
    → take n kept ≡ rows_kept k (λ x. passes true v x) (rows_of rows cols t) (tabulate rows (λ g. g)) → take n marks ≡ marks_at (λ x. passes true v x) (rows_of rows cols t) (take n kept)
    → Going t rows cols k allow work kept marks (record { best = record { value = v; set = s }; n = n; risen = false })
start-going t rows cols k allow work kept marks v s n r rare w a b l few p q = record {
  ready = r;
  rare = rare;
  work-room = w;
  kept-room = a;
  marks-room = b;
  few = few;
  marked = record { floor = l; stay = p ∙ ap (λ (m : ℕ). rows_kept k (λ x. passes true v x) (rows_of rows cols t) (tabulate m (λ g. g))) (sym (rows_of-length rows cols t)); marked = q };
}
