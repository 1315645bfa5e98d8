-- The trial W of document 01: at every level and k its table is the one that stands in crate runs' examples, so what is shown there of W is shown of the
-- trial. And trials with offers that are set aside (document 02, §4).
--   w-with-table, w-table, w-with-run     the table of W and its full run
--   aside_run          W with a third offer of zeros: W's verdicts, counts and records, and that offer set aside
--   front-run          the same with that offer in front
--   cancelled-run      an offer whose differences add up to zero is not set aside; with k 2 it alone remains, so no step is run and it is kept with plus zero
--   zeros-run          a trial all of whose offers are set aside
use Prim.Native.Nat.{ℕ}
use mathlib.Core.Path.{◌≡◌, refl, ap, ◌∙◌}
use mathlib.Core.List.{List, [], ◌∷◌}
use lib.ListN.{take}
use lib.IntN.{pos}
use lib.Ieee.{Float, fin, lt, le, of_int}
use mathlib.Core.Bool.{true, false}
use Rattle.order.specs.Order.{plus_zero}
use Rattle.order.specs.Lists.{rows_of}
use Rattle.refusals.specs.Limits.{allowance}
use Rattle.runs.specs.Stepdown.{first_state, full_run}
use Rattle.runs.specs.Tables.{table_run}
use Rattle.runs.specs.Examples.{W, ⁺, step, run, whole}
use Rattle.runs.specs.declared.Verdict.TheVariants.{Rejected, Kept, Aside}
use Rattle.trial.specs.Aside.{live_mask}
use Rattle.trial.specs.Exchange.{row_total, table_of}
use Rattle.trial.specs.Examples.{trial_with, trial_w, trial_aside, trial_front, trial_cancelled, trial_zeros}
use Rattle.trialrun.specs.TrialRuns.{trial_run}
use Rattle.trialrun.proofs.Runs.{trial_run-table, nothing-aside}

pub w-with-table : (a b k : ℕ) → table_of (trial_with a b k) ≡ W
unfolding table_of
w-with-table a b k = refl

-- its full run is the one that the examples ask for: no offer of W is set aside
pub w-with-run : (a b k : ℕ) → trial_run (trial_with a b k) ≡ table_run W 8 2 k a b 0
unfolding row_total live_mask
w-with-run a b k = nothing-aside (trial_with a b k) refl ∙ ap (λ (t : List Float). table_run t 8 2 k a b 0) (w-with-table a b k)

pub w-table : table_of trial_w ≡ W
unfolding trial_w
w-table = w-with-table 1 4 1

-- ---- offers that are set aside

-- W's rows, each with a zero more
abbrev WithZeros : List Float
WithZeros =
    fin false 3 (pos 2) ∷ fin false 1 (pos 1) ∷ plus_zero
    ∷ fin false 1 (pos 1) ∷ fin true 1 (pos 1) ∷ plus_zero
    ∷ fin false 3 (pos 1) ∷ fin false 1 (pos 2) ∷ plus_zero
    ∷ fin true 1 (pos 2) ∷ plus_zero ∷ plus_zero
    ∷ fin false 1 (pos 2) ∷ plus_zero ∷ plus_zero
    ∷ fin true 3 (pos 1) ∷ fin true 1 (pos 2) ∷ plus_zero
    ∷ fin true 1 (pos 1) ∷ fin false 1 (pos 1) ∷ plus_zero
    ∷ fin true 3 (pos 2) ∷ fin true 1 (pos 1) ∷ plus_zero
    ∷ []

-- and in front
abbrev ZerosWith : List Float
ZerosWith = plus_zero ∷ take 23 WithZeros

aside-table : table_of trial_aside ≡ WithZeros
unfolding table_of trial_aside
aside-table = refl

front-table : table_of trial_front ≡ ZerosWith
unfolding table_of trial_front
front-table = refl

pub aside_run : whole (trial_run trial_aside) ≡ run 2 (Rejected 1 (⁺ 4) ∷ Kept (⁺ 2) ∷ Aside ∷ []) (1 ∷ 3 ∷ 0 ∷ []) (step 1 (⁺ 4) 4 1 ∷ step 2 (⁺ 2) 0 2 ∷ [])
unfolding trial_aside row_total live_mask allowance full_run rows_of lt le of_int
aside_run = ap whole (trial_run-table trial_aside) ∙ ap (λ (t : List Float). whole (full_run (rows_of 8 3 t) (first_state 8 3 1 2 0 3))) aside-table

-- who set the bar is told by the position in the trial (document 02, §5)
pub front-run : whole (trial_run trial_front) ≡ run 2 (Aside ∷ Rejected 1 (⁺ 4) ∷ Kept (⁺ 2) ∷ []) (0 ∷ 1 ∷ 3 ∷ []) (step 1 (⁺ 4) 4 2 ∷ step 2 (⁺ 2) 0 3 ∷ [])
unfolding trial_front row_total live_mask allowance full_run rows_of lt le of_int
front-run = ap whole (trial_run-table trial_front) ∙ ap (λ (t : List Float). whole (full_run (rows_of 8 3 t) (first_state 8 3 1 2 0 6))) front-table

pub cancelled-run : whole (trial_run trial_cancelled) ≡ run 1 (Kept plus_zero ∷ Aside ∷ []) (3 ∷ 0 ∷ []) []
unfolding trial_run trial_cancelled lt le
cancelled-run = refl

pub zeros-run : whole (trial_run trial_zeros) ≡ run 0 (Aside ∷ Aside ∷ []) (0 ∷ 0 ∷ []) []
unfolding trial_run trial_zeros lt le
zeros-run = refl
