-- The stepdown method from step to step, on the rows X of a table. Definitions only.
-- A state holds rows, columns, k, e, the observed row and the live columns (those that take part), and how far the method has got.
--   live_set s, rejected_set s, left_over s  the live columns; R: those that are rejected so far; A: those that are left
--   first_state rows columns k e observed live   the state before step 1: nothing rejected; where fewer than k columns are live no step is taken
--   step_critical k e X live R steps   the critical value after so many steps, with R rejected
--   critical_of X s                    the critical value of the next step
--   step_sets k live R steps           the sets that a step looks at, in the order of the walk
--   bar_set_of X s                     the first of those of the next step whose critical value is that of the step
--   bar_row_of X s, bar_offer_of X s   the lowest row whose k-max over that set equals it, from 0; that row's offer, from 1
--   newly_rejected X s                 the columns that the next step rejects
--   ends_after k live new R            whether a step that rejected `new`, so that R is rejected, ends the run
--   next X s, record_of X s            the state after the next step, and its record
--   step X s                           both
--   steps_from n ended X s             the steps from s on until one has ended, at most n; `ended` is whether s has
--   steps_of X s                        all of them
--   verdict_from last steps j, verdict_of steps j   a live column j's verdict, after the last critical value so far; from the first step on
--   verdict_at s steps j               column j's verdict; one that is not live is set aside
--   count_at X s j                     its count; 0 where it is set aside
--   Outcome                            what a full run tells: M (the rows of its table), e, verdicts, counts and records
--   full_run X s                       those of the run that begins with s
use Rattle.std.specs.Prelude.{ℕ, zero, suc, ◌+◌, ◌-◌, Bool, true, false, cond, ◌||◌, List, [], ◌∷◌, map, get_or, ltb, eqb, Float}
use Rattle.std.specs.Float.{nan}
use Rattle.order.specs.Order.{plus_zero}
use Rattle.order.specs.Lists.{tabulate}
use Rattle.columns.specs.Columns.{Columns, size, ◌∪◌, ◌∩◌, ◌∖◌, over, choose, in_set, columns_of, mask_of}
use Rattle.method.specs.Method.{critical_value, put_back, at_least}
use Rattle.method.specs.Bars.{k_max_column, bar_set, bar_row}
use Rattle.runs.specs.declared.State.{State}
use Rattle.runs.specs.declared.Record.{Record}
use Rattle.runs.specs.declared.Step.{Step}
use Rattle.runs.specs.declared.Verdict.{Verdict}
use Rattle.runs.specs.declared.Verdict.TheVariants.{Rejected, Kept, Aside}

abbrev pub live_set : State → Columns
live_set s = columns_of s.columns s.live

abbrev pub rejected_set : State → Columns
rejected_set s = columns_of s.columns s.rejected

abbrev pub left_over : State → Columns
left_over s = live_set s ∖ rejected_set s

abbrev pub first_state : ℕ → ℕ → ℕ → ℕ → ℕ → ℕ → State
first_state rows columns k e observed live = record {
  rows = rows;
  columns = columns;
  k = k;
  e = e;
  observed = observed;
  live = live;
  rejected = 0;
  steps = 0;
  ended = ltb (size (columns_of columns live)) k;
}

-- ---- one step

-- step 1 looks at all that are live, and a later one at those left with k - 1 rejected ones put back
unfoldable pub step_critical : ℕ → ℕ → List (List Float) → Columns → Columns → ℕ → Float
unfolding critical_value put_back ◌∖◌
step_critical k e X live R zero = critical_value k e X live
step_critical k e X live R (suc s) = put_back k e X (live ∖ R) R

unfoldable pub critical_of : List (List Float) → State → Float
unfolding step_critical columns_of
critical_of X s = step_critical s.k s.e X (live_set s) (rejected_set s) s.steps

-- who set it: the walk takes lower columns first
unfoldable pub step_sets : ℕ → Columns → Columns → ℕ → List Columns
unfolding choose ◌∪◌ ◌∖◌
step_sets k live R zero = live ∷ []
step_sets k live R (suc s) = map (λ I. (live ∖ R) ∪ I) (choose (k - 1) R)

unfoldable pub bar_set_of : List (List Float) → State → Columns
unfolding step_sets critical_of bar_set columns_of
bar_set_of X s = bar_set s.k s.e X (step_sets s.k (live_set s) (rejected_set s) s.steps) (critical_of X s)

unfoldable pub bar_row_of : List (List Float) → State → ℕ
unfolding critical_of bar_set_of bar_row
bar_row_of X s = bar_row s.k X (bar_set_of X s) (critical_of X s)

unfoldable pub bar_offer_of : List (List Float) → State → ℕ
unfolding bar_set_of bar_row_of k_max_column
bar_offer_of X s = k_max_column s.k (bar_set_of X s) (get_or X (bar_row_of X s) []) + 1

unfoldable pub newly_rejected : List (List Float) → State → Columns
unfolding critical_of over ◌∖◌ ◌∩◌
newly_rejected X s = left_over s ∩ over (critical_of X s) (get_or X s.observed [])

-- ended: the step rejected nothing, fewer than k are rejected in all, or none is left
unfoldable pub ends_after : ℕ → Columns → Columns → Columns → Bool
unfolding size ◌∖◌
ends_after k live new R = eqb (size new) 0 || (ltb (size R) k || eqb (size (live ∖ R)) 0)

unfoldable pub next : List (List Float) → State → State
unfolding newly_rejected ends_after columns_of mask_of ◌∪◌
next X s =
    let new = newly_rejected X s in
    let R = rejected_set s ∪ new in
    record {
      rows = s.rows;
      columns = s.columns;
      k = s.k;
      e = s.e;
      observed = s.observed;
      live = s.live;
      rejected = mask_of R;
      steps = s.steps + 1;
      ended = ends_after s.k (live_set s) new R;
    }

unfoldable pub record_of : List (List Float) → State → Record
unfolding critical_of bar_row_of bar_offer_of
record_of X s = record { step = s.steps + 1; critical = critical_of X s; row = bar_row_of X s; offer = bar_offer_of X s }

abbrev pub step : List (List Float) → State → Step
step X s = record { state = next X s; logged = record_of X s }

-- ---- the full run

unfoldable pub steps_from : ℕ → Bool → List (List Float) → State → List Step
unfolding next record_of
steps_from zero ended X s = []
steps_from (suc n) true X s = []
steps_from (suc n) false X s = step X s ∷ steps_from n (next X s).ended X (next X s)

-- 32 steps are enough, since each but the last rejects a column
unfoldable pub steps_of : List (List Float) → State → List Step
unfolding steps_from
steps_of X s = steps_from 32 s.ended X s

-- rejected by the first step after which it is rejected; kept with the last critical value
abbrev pub verdict_from : Float → List Step → ℕ → Verdict
verdict_from last [] j = Kept last
verdict_from last (s ∷ ss) j =
    cond (in_set s.state.rejected j) (Rejected s.logged.step s.logged.critical) (verdict_from s.logged.critical ss j)

unfoldable pub verdict_of : List Step → ℕ → Verdict
verdict_of ss j = verdict_from plus_zero ss j

-- only live columns have verdicts and counts of the method
abbrev pub verdict_at : State → List Step → ℕ → Verdict
verdict_at s ss j = cond (in_set s.live j) (verdict_of ss j) Aside

abbrev pub count_at : List (List Float) → State → ℕ → ℕ
count_at X s j = cond (in_set s.live j) (at_least X (get_or (get_or X s.observed []) j nan) j) 0

pub record Outcome : Type 0 where
  pub rows : ℕ
  pub e : ℕ
  pub verdicts : List Verdict
  pub counts : List ℕ
  pub records : List Record

unfoldable pub full_run : List (List Float) → State → Outcome
unfolding steps_of verdict_of tabulate at_least
full_run X s =
    let ss = steps_of X s in
    record {
      rows = s.rows;
      e = s.e;
      verdicts = tabulate s.columns (λ j. verdict_at s ss j);
      counts = tabulate s.columns (λ j. count_at X s j);
      records = map (λ s. s.logged) ss;
    }
