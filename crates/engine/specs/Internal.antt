-- Definitions that only the inner functions cite. Definitions only; a reader of the promises needs none of them.
--   CanStep t s          a table that has passed its checks, and a state from which a step can be taken
--   bar_in X s           the critical value of the next step, with the set and the row that gave it
--   stops columns k live new rejected    whether a step ends the run, by masks of what it rejected and of all that is rejected
--   Traced t             a trace of at most 32 steps, in arrays of 32 places
--   trace_of ss          the records and rejected sets of steps, in 32 places each
--   noted_at t i s       a trace with one step more, at place i
--   verdict_over, verdict_in t j   a live column j's verdict, read off records and sets, and off a trace
--   told_in live t j     column j's verdict, one that is not live being set aside
--   finished_run         the full run that a trace makes
use Rattle.std.specs.Prelude.{ℕ, ◌+◌, ◌*◌, ◌^◌, ◌≤◌, ◌<◌, ◌≡◌, Bool, false, cond, ◌||◌, List, [], ◌∷◌, map, T, eqb, ltb, length, get_or, take, set, Float}
use Rattle.std.specs.Float.{nan}
use Rattle.order.specs.Order.{plus_zero}
use Rattle.order.specs.Lists.{tabulate, rows_of, padded}
use Rattle.columns.specs.Columns.{size, ◌∖◌, columns_of, in_set}
use Rattle.method.specs.Method.{at_least}
use Rattle.runs.specs.Stepdown.{live_set, rejected_set, critical_of, step_sets}
use Rattle.runs.specs.FullRuns.{no_record}
use Rattle.runs.specs.declared.State.{State}
use Rattle.runs.specs.declared.Step.{Step}
use Rattle.runs.specs.declared.Record.{Record}
use Rattle.runs.specs.declared.Verdict.{Verdict}
use Rattle.runs.specs.declared.Verdict.TheVariants.{Rejected, Kept, Aside}
use Rattle.runs.specs.declared.FullRun.{FullRun}
use Rattle.masks.specs.Internal.{CheckedTable}
use Rattle.putback.specs.Internal.{bar_of}
use Rattle.putback.specs.declared.Bar.{Bar}
use Rattle.engine.specs.declared.tracing.Trace.{Trace}

pub record CanStep (t : List Float) (s : State) : Type 0 where
  pub ready : CheckedTable t s.rows s.columns s.k
  pub rare : s.e < s.rows
  pub seen : s.observed < s.rows
  pub live-fits : s.live < 2 ^ s.columns
  pub fits : s.rejected < 2 ^ s.columns
  pub inside : (j : ℕ) → T (get_or (rejected_set s) j false) → T (get_or (live_set s) j false)
  pub steps-most : s.steps ≤ 32
  pub first : s.steps ≡ 0 → s.k ≤ size (live_set s)
  pub many : 0 < s.steps → s.k ≤ size (rejected_set s)
  pub left : 0 < size (live_set s ∖ rejected_set s)

unfoldable pub bar_in : List (List Float) → State → Bar
unfolding bar_of step_sets critical_of columns_of
bar_in X s = bar_of s.k s.e X (step_sets s.k (live_set s) (rejected_set s) s.steps) (critical_of X s)

unfoldable pub stops : ℕ → ℕ → ℕ → ℕ → ℕ → Bool
unfolding size columns_of
stops columns k live new rejected = eqb new 0 || (ltb (size (columns_of columns rejected)) k || eqb live rejected)

-- ---- all steps

unfoldable pub trace_of : List Step → Trace
trace_of ss = record { steps = length ss; records = padded 32 no_record (map (λ s. s.logged) ss); sets = padded 32 0 (map (λ s. s.state.rejected) ss) }

pub record Traced (t : Trace) : Type 0 where
  pub steps-most : t.steps ≤ 32
  pub records-32 : length t.records ≡ 32
  pub sets-32 : length t.sets ≡ 32

abbrev pub noted_at : Trace → ℕ → Step → Trace
noted_at t i s = record { steps = i + 1; records = set t.records i s.logged; sets = set t.sets i s.state.rejected }

abbrev pub verdict_over : Float → List Record → List ℕ → ℕ → Verdict
verdict_over last [] ss j = Kept last
verdict_over last (r ∷ rs) [] j = Kept last
verdict_over last (r ∷ rs) (s ∷ ss) j = cond (in_set s j) (Rejected r.step r.critical) (verdict_over r.critical rs ss j)

unfoldable pub verdict_in : Trace → ℕ → Verdict
verdict_in t j = verdict_over plus_zero (take t.steps t.records) (take t.steps t.sets) j

abbrev pub told_in : ℕ → Trace → ℕ → Verdict
told_in live t j = cond (in_set live j) (verdict_in t j) Aside

unfoldable pub finished_run : Trace → List Float → ℕ → ℕ → ℕ → ℕ → ℕ → FullRun
unfolding verdict_in tabulate at_least rows_of
finished_run t table rows columns e observed live =
    record {
      rows = rows;
      e = e;
      steps = t.steps;
      records = t.records;
      verdicts = padded 32 (Kept plus_zero) (tabulate columns (λ j. told_in live t j));
      counts = padded 32 0 (tabulate columns (λ j. cond (in_set live j) (at_least (rows_of rows columns table) (get_or table (observed * columns + j) nan) j) 0));
    }
