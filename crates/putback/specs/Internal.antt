-- Definitions that only the inner functions cite. Definitions only; a reader of the promises needs none of them.
--   better f b Ks        the best of b and the values f K of some sets, each with its set: strictly larger replaces, equal does not
--   best_of b cs         the largest of b and some values
--   bar_of k e X Ks c    a critical value c, the mask of the first of the sets Ks that gives it, and the lowest row whose k-max over that set equals it
--   sets_of cols b       the sets of a branch, in the order of the walk
--   with, without b      the branches in which the next column is chosen, and in which it is passed over
--   unite b              the mask of all columns of a branch
--   hopeless_in k e ms b  by the marks ms, no set of the branch can have more than e rows
--   At cols k b          what holds of each branch of the walk
--   Going t rows cols k allow work kept marks h     what holds of a table, of the buffers and of what is held
use Rattle.std.specs.Prelude.{ℕ, ◌+◌, ◌-◌, ◌*◌, ◌/◌, ◌^◌, ◌≤◌, ◌<◌, Bool, false, cond, ◌||◌, List, [], ◌∷◌, ◌++◌, map, leb, length, take, replicate, Float}
use Rattle.order.specs.Order.{smaller, larger}
use Rattle.order.specs.Lists.{rows_of}
use Rattle.columns.specs.Columns.{Columns, size, ◌∪◌, choose, columns_of, mask_of}
use Rattle.method.specs.Bars.{bar_set, bar_row}
use Rattle.masks.specs.Internal.{CheckedTable, Walk}
use Rattle.masks.specs.Marks.{holding}
use Rattle.critical.specs.Internal.{Marked}
use Rattle.putback.specs.declared.branch.Branch.{Branch}
use Rattle.putback.specs.declared.walk.Held.{Held}
use Rattle.putback.specs.declared.walk.Best.{Best}
use Rattle.putback.specs.declared.Bar.{Bar}

-- ---- the best set

unfoldable pub better : (Columns → Float) → Best → List Columns → Best
unfolding mask_of
better f b [] = b
better f b (K ∷ Ks) = better f (cond (smaller b.value (f K)) (record { value = f K; set = mask_of K }) b) Ks

unfoldable pub best_of : Float → List Float → Float
best_of b [] = b
best_of b (c ∷ cs) = best_of (larger b c) cs

unfoldable pub bar_of : ℕ → ℕ → List (List Float) → List Columns → Float → Bar
unfolding bar_set bar_row mask_of
bar_of k e X Ks c = let K = bar_set k e X Ks c in record { value = c; set = mask_of K; row = bar_row k X K c }

-- ---- branches

unfoldable pub sets_of : ℕ → Branch → List Columns
unfolding choose columns_of ◌∪◌
sets_of cols b = map (λ I. columns_of cols b.set ∪ (replicate b.from false ++ I)) (choose b.left (columns_of (cols - b.from) b.rest))

abbrev pub with : Branch → Branch
with b = record { set = b.set + 2 ^ b.from; rest = b.rest / 2; from = b.from + 1; left = b.left - 1 }

abbrev pub without : Branch → Branch
without b = record { set = b.set; rest = b.rest / 2; from = b.from + 1; left = b.left }

abbrev pub unite : Branch → ℕ
unite b = b.set + b.rest * 2 ^ b.from

unfoldable pub hopeless_in : ℕ → ℕ → List ℕ → Branch → Bool
unfolding holding
hopeless_in k e ms b = leb (holding (k - b.left) b.set ms) e || leb (holding k (unite b) ms) e

pub record At (cols k : ℕ) (b : Branch) : Type 0 where
  pub walk : Walk cols b.set b.rest b.from
  pub many : k ≤ size (columns_of cols b.set) + b.left
  pub fewer : b.left < k

-- ---- what is held

pub record Going (t : List Float) (rows cols k allow : ℕ) (work : List Float) (kept marks : List ℕ) (h : Held) : Type 0 where
  pub ready : CheckedTable t rows cols k
  pub rare : allow < rows
  pub work-room : rows ≤ length work
  pub kept-room : rows ≤ length kept
  pub marks-room : rows ≤ length marks
  pub few : h.n ≤ rows
  pub marked : Marked (rows_of rows cols t) k h.best.value (take h.n kept) (take h.n marks)
