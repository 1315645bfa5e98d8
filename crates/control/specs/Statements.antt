-- What demand 3 speaks of. Definitions only.
--   rejected_among idle vs     how many of the columns that are called idle have the verdict rejected
--   runs_that_reject k n idle vs  of the n runs with the verdicts vs 0 to vs (n - 1), how many reject k or more idle columns
--   entry t columns h j        the value of a table t in row h and column j
--   SameOn idle rows columns t u      two tables agree in all their idle columns, as numbers
--   ListedOn idle g t u        u's idle offers have the figures that run g of t lists (`listed`, trial/specs/Designs): in a paired trial each difference
--                              with its sign changed where its bit of g is 1, of shops without partners the figures of the shops of choice g first.
--                              That all else is kept is `Keeps` (trial/specs/Record)
use Rattle.std.specs.Prelude.{ℕ, ◌+◌, ◌*◌, ◌<◌, ◌≡◌, Bool, ◌&&◌, List, length, get_or, leb, T, Float}
use Rattle.std.specs.Float.{nan}
use Rattle.order.specs.Order.{plus_zero, equal}
use Rattle.order.specs.Counting.{count_below}
use Rattle.runs.specs.FullRuns.{is_rejected}
use Rattle.runs.specs.declared.Verdict.{Verdict}
use Rattle.runs.specs.declared.Verdict.TheVariants.{Kept}
use Rattle.trial.specs.Designs.{listed}
use Rattle.trial.specs.Exchange.{figures_at}
use Rattle.trial.specs.declared.Trial.{Trial}

unfoldable pub rejected_among : (ℕ → Bool) → List Verdict → ℕ
unfolding count_below
rejected_among idle vs = count_below (length vs) (λ j. idle j && is_rejected (get_or vs j (Kept plus_zero)))

unfoldable pub runs_that_reject : ℕ → ℕ → (ℕ → Bool) → (ℕ → List Verdict) → ℕ
unfolding count_below rejected_among
runs_that_reject k n idle vs = count_below n (λ g. leb k (rejected_among idle (vs g)))

-- ---- tables

unfoldable pub entry : List Float → ℕ → ℕ → ℕ → Float
entry t columns h j = get_or t (h * columns + j) nan

abbrev pub SameOn : (ℕ → Bool) → ℕ → ℕ → List Float → List Float → Type 0
SameOn idle rows columns t u = (h j : ℕ) → h < rows → j < columns → T (idle j) → T (equal (entry u columns h j) (entry t columns h j))

-- ---- trials

abbrev pub ListedOn : (ℕ → Bool) → ℕ → Trial → Trial → Type 0
ListedOn idle g t u = (i : ℕ) → i < t.shape.offers → T (idle i) → figures_at u i ≡ listed t.shape.design g (figures_at t i)
