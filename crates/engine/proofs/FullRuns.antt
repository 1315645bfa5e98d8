-- The full run that a trace makes, column by column.
--   observed_count    a column's count, by the place of its observed value in the table
--   verdicts_to, counts_to      the verdicts and counts of the first j columns, in 32 places
--   trace-verdict     a verdict read off the trace of steps is the verdict of those steps
--   counted-can       the first state can be stepped where k or more columns are live
--   full_is           what the steps make is the full run
use Prim.Native.Nat.{ℕ, ◌+◌, ◌-◌, ◌*◌, ◌^◌, ◌≤◌, ◌<◌}
use native.Mathlib.Omega.{arith}
use mathlib.Core.Path.{◌≡◌, refl, sym, ap, ap₂, ◌∙◌, subst}
use mathlib.Core.Bool.{Bool, false, cond}
use mathlib.Core.List.{List, [], ◌∷◌, ◌++◌, map}
use lib.ListN.{length, get_or, drop, set, replicate, length-map, get_or-append}
use lib.Seq.{take_at}
use lib.Dec.{T, ltb}
use lib.Pow.{pow_pos}
use lib.Ieee.{Float, nan}
use Rattle.order.specs.Order.{plus_zero}
use Rattle.order.specs.Lists.{tabulate, rows_of, padded}
use Rattle.order.proofs.Lists.{tabulate-length, tabulate-get_d, tabulate-same, tabulate-more, padded-length, set-padded, row-entry}
use Rattle.refusals.specs.Buffers.{cleared}
use Rattle.columns.specs.Columns.{size, in_set, columns_of}
use Rattle.method.specs.Method.{at_least}
use Rattle.runs.specs.Stepdown.{first_state, steps_of, verdict_from, verdict_of, verdict_at, count_at, full_run}
use Rattle.runs.specs.FullRuns.{no_record, accepted_run}
use Rattle.runs.specs.declared.State.{State}
use Rattle.runs.specs.declared.Record.{Record}
use Rattle.runs.specs.declared.Step.{Step}
use Rattle.runs.specs.declared.Verdict.{Verdict}
use Rattle.runs.specs.declared.Verdict.TheVariants.{Rejected, Kept, Aside}
use Rattle.runs.specs.declared.FullRun.{FullRun}
use Rattle.runs.proofs.Start.{first-empty, first-left, first-open}
use Rattle.runs.proofs.Termination.{steps-few}
use Rattle.masks.specs.Internal.{CheckedTable}
use Rattle.engine.specs.Internal.{CanStep, Traced, trace_of, verdict_over, verdict_in, told_in, finished_run}
use Rattle.engine.specs.declared.tracing.Trace.{Trace}

abbrev pub observed_count : List Float → ℕ → ℕ → ℕ → ℕ → ℕ
observed_count table rows columns observed i = at_least (rows_of rows columns table) (get_or table (observed * columns + i) nan) i

-- the verdicts and counts of the first j columns, in their places
abbrev pub verdicts_to : Trace → ℕ → ℕ → List Verdict
verdicts_to t live j = padded 32 (Kept plus_zero) (tabulate j (λ i. told_in live t i))

abbrev pub counts_to : List Float → ℕ → ℕ → ℕ → ℕ → ℕ → List ℕ
counts_to table rows columns observed live j = padded 32 0 (tabulate j (λ i. cond (in_set live i) (observed_count table rows columns observed i) 0))

tabulate-turn : {A : Type 0} (d : A) (f : ℕ → A) (j : ℕ) (v : A) → j < 32 → v ≡ f j → set (padded 32 d (tabulate j f)) j v ≡ padded 32 d (tabulate (j + 1) f)
tabulate-turn d f j v h q =
    set-padded 32 d (tabulate j f) j v (tabulate-length j f) h
    ∙ ap (padded 32 d) (ap (λ w. tabulate j f ++ (w ∷ [])) q ∙ sym (tabulate-more j f))

pub verdicts-turn : (t : Trace) (live j : ℕ) (v : Verdict) → j < 32 → v ≡ told_in live t j → set (verdicts_to t live j) j v ≡ verdicts_to t live (j + 1)
verdicts-turn t live j v h q = tabulate-turn (Kept plus_zero) (λ i. told_in live t i) j v h q

module _ (table : List Float) (rows columns observed live j : ℕ) (cs : List ℕ) (n : ℕ) (h : j < 32) (l : j < columns) (r : cs ≡ padded 32 0 (tabulate columns (observed_count table rows columns observed))) where
  abbrev count : ℕ → ℕ
  count i = observed_count table rows columns observed i

  counted-here : get_or cs j 0 ≡ count j
  counted-here = ap (λ (ns : List ℕ). get_or ns j 0) r ∙ get_or-append (tabulate columns count) (replicate (32 - length (tabulate columns count)) 0) 0 j (omega (arith, tabulate-length columns count)) ∙ tabulate-get_d columns count j 0 l

  pub counts-turn : n ≡ cond (in_set live j) (get_or cs j 0) 0 → set (counts_to table rows columns observed live j) j n ≡ counts_to table rows columns observed live (j + 1)
  counts-turn q = tabulate-turn 0 (λ i. cond (in_set live i) (count i) 0) j n h (q ∙ ap (λ (m : ℕ). cond (in_set live j) m 0) counted-here)

pub finished-by : (t : Trace) (table : List Float) (rows columns e observed live j : ℕ) (vs : List Verdict) (ns : List ℕ) → j ≡ columns → vs ≡ verdicts_to t live j → ns ≡ counts_to table rows columns observed live j
    → record { rows = rows; e = e; steps = t.steps; records = t.records; verdicts = vs; counts = ns } ≡ finished_run t table rows columns e observed live
unfolding finished_run
finished-by t table rows columns e observed live j vs ns q p r =
    ap₂ (λ (ws : List Verdict) (ms : List ℕ). record { rows = rows; e = e; steps = t.steps; records = t.records; verdicts = ws; counts = ms }) (p ∙ ap (verdicts_to t live) q) (r ∙ ap (counts_to table rows columns observed live) q)

-- ---- the trace of steps

verdict-same : (last : Float) (ss : List Step) (j : ℕ) → verdict_over last (map (λ s. s.logged) ss) (map (λ s. s.state.rejected) ss) j ≡ verdict_from last ss j
verdict-same last [] j = refl
verdict-same last (s ∷ ss) j = ap (λ (v : Verdict). cond (in_set s.state.rejected j) (Rejected s.logged.step s.logged.critical) v) (verdict-same s.logged.critical ss j)

module _ (ss : List Step) where
  pub trace-verdict : (j : ℕ) → verdict_in (trace_of ss) j ≡ verdict_of ss j
  unfolding verdict_in trace_of verdict_of
  trace-verdict j =
      ap₂ (λ (rs : List Record) (ms : List ℕ). verdict_over plus_zero rs ms j)
      (take_at (map (λ s. s.logged) ss) (replicate (32 - length (map (λ s. s.logged) ss)) no_record) (length ss) (length-map ss (λ s. s.logged)))
      (take_at (map (λ s. s.state.rejected) ss) (replicate (32 - length (map (λ s. s.state.rejected) ss)) 0) (length ss) (length-map ss (λ s. s.state.rejected)))
      ∙ verdict-same plus_zero ss j

  pub trace-typed : length ss ≤ 32 → Traced (trace_of ss)
  unfolding trace_of
  trace-typed h = record { steps-most = h; records-32 = padded-length 32 no_record (map (λ s. s.logged) ss) (omega (arith, length-map ss (λ s. s.logged))); sets-32 = padded-length 32 0 (map (λ s. s.state.rejected) ss) (omega (arith, length-map ss (λ s. s.state.rejected))) }

-- ---- the whole

module _ (table : List Float) (rows columns k e observed live : ℕ) where
  abbrev start : State
  start = first_state rows columns k e observed live

  abbrev ss : List Step
  ss = steps_of (rows_of rows columns table) start

  start-can : CheckedTable table rows columns k → e < rows → observed < rows → live < 2 ^ columns → start.ended ≡ false → CanStep table start
  start-can ready rare seen fits on = record {
    ready = ready;
    rare = rare;
    seen = seen;
    live-fits = fits;
    fits = pow_pos columns;
    inside = λ j t. absurd (subst (λ (b : Bool). T b) (first-empty rows columns k e observed live j) t);
    steps-most = omega arith;
    first = λ _. first-open rows columns k e observed live on;
    many = λ p. absurd (omega arith);
    left = omega (arith, first-left rows columns k e observed live, first-open rows columns k e observed live on, ready.k-some);
  }

  finished-is : observed < rows → finished_run (trace_of (steps_of (rows_of rows columns table) start)) table rows columns e observed live ≡ accepted_run (full_run (rows_of rows columns table) start)
  unfolding finished_run accepted_run full_run trace_of
  finished-is h = λ i. record {
    rows = rows;
    e = e;
    steps = sym (length-map ss (λ s. s.logged)) i;
    records = padded 32 no_record (map (λ s. s.logged) ss);
    verdicts = padded 32 (Kept plus_zero) (vs i);
    counts = padded 32 0 (cs i);
  }
    where
      vs : tabulate columns (λ j. told_in live (trace_of ss) j) ≡ tabulate columns (λ j. verdict_at start ss j)
      vs = tabulate-same columns (λ j. told_in live (trace_of ss) j) (λ j. verdict_at start ss j) (λ j l. ap (λ (v : Verdict). cond (in_set live j) v Aside) (trace-verdict ss j))

      cs : tabulate columns (λ j. cond (in_set live j) (observed_count table rows columns observed j) 0) ≡ tabulate columns (λ j. count_at (rows_of rows columns table) start j)
      cs = tabulate-same columns (λ j. cond (in_set live j) (observed_count table rows columns observed j) 0) (λ j. count_at (rows_of rows columns table) start j)
          (λ j l. ap (λ (v : Float). cond (in_set live j) (at_least (rows_of rows columns table) v j) 0) (sym (row-entry table rows columns observed j nan h l)))

  -- the same state, its live columns counted as n
  module _ (n : ℕ) (c : n ≡ size (columns_of columns live)) where
    abbrev counted : State
    counted = record { rows = rows; columns = columns; k = k; e = e; observed = observed; live = live; rejected = 0; steps = 0; ended = ltb n k }

    counted_is : counted ≡ start
    counted_is = ap (λ (m : ℕ). record { rows = rows; columns = columns; k = k; e = e; observed = observed; live = live; rejected = 0; steps = 0; ended = ltb m k }) c

    pub counted-can : CheckedTable table rows columns k → e < rows → observed < rows → live < 2 ^ columns → ltb n k ≡ false → CanStep table counted
    counted-can ready rare seen fits on = subst (λ (s : State). CanStep table s) (sym counted_is) (start-can ready rare seen fits (ap (λ (m : ℕ). ltb m k) (sym c) ∙ on))

    pub counted-traced : (t : Trace) → t ≡ trace_of (steps_of (rows_of rows columns table) counted) → Traced t
    counted-traced t q = subst (λ (x : Trace). Traced x) (sym q) (trace-typed (steps_of (rows_of rows columns table) counted) (steps-few (rows_of rows columns table) counted))

    pub full_is : (t : Trace) (f : FullRun) → observed < rows → t ≡ trace_of (steps_of (rows_of rows columns table) counted) → f ≡ finished_run t table rows columns e observed live → f ≡ accepted_run (full_run (rows_of rows columns table) start)
    full_is t f h q p = p ∙ ap (λ (x : Trace). finished_run x table rows columns e observed live) (q ∙ ap (λ (s : State). trace_of (steps_of (rows_of rows columns table) s)) counted_is) ∙ finished-is h

-- the work buffer beyond the first rows is as it was, and those are cleared
pub work-cleared : (rows : ℕ) (work w w' : List Float) → drop rows w ≡ drop rows work → w' ≡ cleared rows w → w' ≡ cleared rows work
work-cleared rows work w w' d q = q ∙ ap (λ (l : List Float). replicate rows plus_zero ++ l) d
