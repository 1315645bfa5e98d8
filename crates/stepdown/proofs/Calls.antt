-- The public calls: what their checks let by, and what they answer.
--   step-judged        the order in which a step is judged
--   step-known         a step that is not refused has a state that can be stepped
--   begin-on, step-.., full-..     each accepted answer is the definition's
--   begin-told, step-told          the number and values for each case of an answer
use Prim.Native.Nat.{ℕ, ◌+◌, ◌*◌, ◌^◌, ◌≤◌, ◌<◌}
use native.Mathlib.Omega.{arith}
use native.Mathlib.Decide.{dec_le}
use mathlib.Core.Path.{◌≡◌, refl, sym, ap, ap₂, ◌∙◌, subst}
use mathlib.Core.Bool.{Bool, true, false, not, cond}
use mathlib.Core.List.{List}
use lib.ListN.{length, drop, replicate}
use lib.Dec.{T, ltb, eqb}
use lib.Ieee.{Float}
use borrow.Author.Tests.{ltb-false}
use Rattle.order.specs.Lists.{rows_of}
use Rattle.std.proofs.Common.{Ok}
use Rattle.refusals.specs.Answers.{Checks, answer, outcome}
use Rattle.refusals.specs.Limits.{allowance}
use Rattle.refusals.specs.Buffers.{cleared}
use Rattle.refusals.proofs.Answers.{NoneHolds, none-holds, none_first, outcome-ok, ok-none, ok-for, ok_answer, outcome-answer}
use Rattle.refusals.proofs.Limits.{allowance-lt}
use Rattle.columns.specs.Columns.{Columns, size, ◌∖◌, columns_of, full_mask}
use Rattle.columns.proofs.Sets.{has, has-length, has_all, size-left}
use Rattle.columns.proofs.Masks.{columns_of-length, full-columns, full-fits, size_none}
use Rattle.runs.specs.Stepdown.{rejected_set, first_state, step, full_run, left_over}
use Rattle.runs.specs.FullRuns.{no_record, accepted_run}
use Rattle.runs.specs.Tables.{table_run}
use Rattle.runs.specs.declared.State.{State}
use Rattle.runs.specs.declared.Step.{Step}
use Rattle.runs.specs.declared.FullRun.{FullRun}
use Rattle.runs.proofs.Start.{full_size}
use Rattle.engine.specs.Internal.{CanStep}
use Rattle.stepdown.specs.Runs.{begun, state_of, resume, next_run, step_record}
use Rattle.stepdown.specs.Refusals.{bad_value, table_run_checks, table_run_refusal, begin_checks, begin_refusal, bad_figures, spoiled, step_checks, step_refusal}
use Rattle.stepdown.specs.Answers.{begin_answer, step_answer, step_work, full_answer, full_work, told, told_by_beginning, told_by_step}
use Rattle.stepdown.specs.declared.Run.{Run}
use Rattle.stepdown.proofs.Accepted.{Accepted, accepted-rare, checked, full-length, all-finite}
use Rattle.stepdown.proofs.Spoiled.{figures, Progress, progress, spoiled-none}

-- ---- the stated order of a step: 14, 13, 9, 11, 12

pub step-judged : (t : List Float) (r : Run) (places : ℕ)
    → step_refusal t r places ≡ cond (spoiled r) 14 (cond r.ended 13 (cond (not (eqb (length t) (r.rows * r.columns))) 9 (cond (bad_value t) 11 (cond (ltb places r.rows) 12 0))))
unfolding step_refusal
step-judged t r places = refl

-- ---- a run that can be stepped

-- the columns that are left and the rejected ones are all
pub sides : (r : Run) → size (left_over (state_of r)) + size (rejected_set (state_of r)) ≡ r.columns
sides r =
    ap (λ (K : Columns). size (K ∖ rejected_set (state_of r)) + size (rejected_set (state_of r))) (full-columns r.columns)
    ∙ subst (λ (n : ℕ). size (replicate n true ∖ rejected_set (state_of r)) + size (rejected_set (state_of r)) ≡ n) (columns_of-length r.columns r.rejected) (size-left (rejected_set (state_of r)))

module _ (t : List Float) (r : Run) (places : ℕ) (h : step_refusal t r places ≡ 0) where
  none : NoneHolds (step_checks t r places)
  unfolding step_refusal
  none = none-holds (step_checks t r places) h

  pub step-unspoiled : spoiled r ≡ false
  step-unspoiled = none.0

  pub step-open : r.ended ≡ false
  step-open = none.1.0

  pub step-figures : bad_figures r ≡ false
  step-figures = (spoiled-none r step-unspoiled).0

  so_far : Progress r
  so_far = progress r (spoiled-none r step-unspoiled).1 step-open

  -- each step so far has rejected a column
  pub step-behind : r.steps ≤ size (rejected_set (state_of r))
  step-behind = so_far.behind

  pub step_room : r.rows ≤ places
  step_room = ltb-false places r.rows none.1.1.1.1.0

  some_left : size (rejected_set (state_of r)) < r.columns
  some_left = go (dec_le 1 r.steps)
    where
      go : Dec (0 < r.steps) → size (rejected_set (state_of r)) < r.columns
      go (yes q) = so_far.room q
      go (no q) = omega (arith, (figures r step-figures).shaped.columns-some, ap (λ (s : ℕ). size (columns_of r.columns s)) (so_far.fresh (omega (arith, q))), size_none r.columns)

  pub step-known : CanStep t (state_of r)
  step-known =
      let f = figures r step-figures in
      record {
        ready = checked t r.rows r.columns r.k f.shaped (full-length t (r.rows * r.columns) none.1.1.0) (all-finite t none.1.1.1.0);
        rare = allowance-lt r.rows r.a r.b f.shaped.rows-some f.levelled.proper;
        seen = f.seen;
        live-fits = full-fits r.columns;
        fits = so_far.fits;
        inside = λ j u. live_all j (omega (arith, has-length (rejected_set (state_of r)) j u, columns_of-length r.columns r.rejected));
        steps-most = so_far.steps-most;
        first = λ _. omega (arith, f.shaped.k-held, full_size r.columns);
        many = so_far.many;
        left = omega (arith, sides r, some_left);
      }
    where
      live_all : (j : ℕ) → j < r.columns → T (has (columns_of r.columns (full_mask r.columns)) j)
      live_all j l = subst (λ (b : Bool). T b) (sym (ap (λ (K : Columns). has K j) (full-columns r.columns) ∙ has_all r.columns j l)) tt

  -- the same of the state as it is made
  pub step-ready : (s : State) → s ≡ state_of r → CanStep t s × (s.rows ≤ places)
  step-ready s e = subst (λ (x : State). CanStep t x × (x.rows ≤ places)) (sym e) (step-known, step_room)

-- ---- beginning

pub begin-on : (rows columns k a b observed : ℕ) → begin_refusal rows columns k a b observed ≡ 0 → begin_answer rows columns k a b observed ≡ Ok (begun rows columns k a b observed)
unfolding begin_answer begin_refusal
begin-on rows columns k a b observed z = outcome-ok (begin_checks rows columns k a b observed) (begun rows columns k a b observed) (none-holds (begin_checks rows columns k a b observed) z)

-- ---- a step

module _ (t : List Float) (r : Run) (work : List Float) where
  module _ (e : Ok tt ≡ outcome {A = Unit {0}} (step_checks t r (length work)) tt) where
    pub step-passed : step_refusal t r (length work) ≡ 0
    unfolding step_refusal
    step-passed = none_first (step_checks t r (length work)) (ok-none (step_checks t r (length work)) tt tt (sym e))

    pub step-on : (state : State) → state ≡ state_of r → (s : Step) → s ≡ step (rows_of state.rows state.columns t) state → (q : Run) → q ≡ resume r s.state → Ok (q, s.logged) ≡ step_answer t r (length work)
    unfolding step_answer
    step-on state y s w q p =
        ap (λ (x : Run). Ok (x, s.logged)) p
        ∙ ap (λ (x : Step). Ok (resume r x.state, x.logged)) (w ∙ ap (λ (x : State). step (rows_of x.rows x.columns t) x) y)
        ∙ sym (ok-for (step_checks t r (length work)) tt tt (next_run t r, step_record t r) (sym e))

    -- beyond the first rows the buffer is as it was, and those are cleared
    pub work-cleared : (state : State) → state ≡ state_of r → (w w' : List Float) → drop state.rows w ≡ drop state.rows work → w' ≡ cleared r.rows w → w' ≡ step_work t r work
    unfolding step_work
    work-cleared state y w w' d q =
        Rattle.engine.proofs.FullRuns.work-cleared r.rows work w w' (subst (λ (x : State). drop x.rows w ≡ drop x.rows work) y d) q
        ∙ sym (ok_answer (step_checks t r (length work)) tt tt (cleared r.rows work) (λ _. work) (sym e))

-- ---- a full run

module _ (t : List Float) (rows columns k a b observed : ℕ) (work : List Float) where
  abbrev checks : Checks
  checks = table_run_checks t rows columns k a b observed (length work)

  module _ (e : Ok tt ≡ outcome {A = Unit {0}} (table_run_checks t rows columns k a b observed (length work)) tt) where
    pub full-passed : table_run_refusal t rows columns k a b observed (length work) ≡ 0
    unfolding table_run_refusal
    full-passed = none_first checks (ok-none checks tt tt (sym e))

    pub full-on : (f : FullRun) → f ≡ accepted_run (table_run t rows columns k a b observed) → Ok f ≡ full_answer t rows columns k a b observed (length work)
    unfolding full_answer
    full-on f q = ap Ok q ∙ sym (ok-for checks tt tt (accepted_run (table_run t rows columns k a b observed)) (sym e))

    pub full-work-cleared : (w : List Float) → w ≡ cleared rows work → w ≡ full_work t rows columns k a b observed work
    unfolding full_work
    full-work-cleared w q = q ∙ sym (ok_answer checks tt tt (cleared rows work) (λ _. work) (sym e))

-- what the engine asks of e and of the mask of all columns
pub made-rare : (t : List Float) (rows columns k a b observed : ℕ) → Accepted t rows columns k a b observed → (e : ℕ) → e ≡ allowance rows a b → e < rows
made-rare t rows columns k a b observed acc e q = omega (arith, accepted-rare t rows columns k a b observed acc)

pub made-full : (columns live : ℕ) → live ≡ full_mask columns → live < 2 ^ columns
made-full columns live q = omega (arith, full-fits columns)

-- the engine's full run at e, over all columns
pub full_is : (t : List Float) (rows columns k a b observed e live : ℕ) (f : FullRun) → e ≡ allowance rows a b → live ≡ full_mask columns
    → f ≡ accepted_run (full_run (rows_of rows columns t) (first_state rows columns k e observed live)) → f ≡ accepted_run (table_run t rows columns k a b observed)
unfolding table_run
full_is t rows columns k a b observed e live f p q w = w ∙ ap₂ (λ (x y : ℕ). accepted_run (full_run (rows_of rows columns t) (first_state rows columns k x observed y))) p q

-- ---- the number and values for each case of an answer

pub begin-told : (rows columns k a b observed : ℕ) (r : Run)
    → told_by_beginning r (begin_answer rows columns k a b observed) ≡ answer (begin_checks rows columns k a b observed) (told 0 (begun rows columns k a b observed) no_record) (λ n. told n r no_record)
unfolding begin_answer
begin-told rows columns k a b observed r = outcome-answer (told_by_beginning r) (λ n. told n r no_record) (λ n. refl) (begin_checks rows columns k a b observed) (begun rows columns k a b observed)

pub step-told : (t : List Float) (r : Run) (places : ℕ)
    → told_by_step r (step_answer t r places) ≡ answer (step_checks t r places) (told 0 (next_run t r) (step_record t r)) (λ n. told n r no_record)
unfolding step_answer
step-told t r places = outcome-answer (told_by_step r) (λ n. told n r no_record) (λ n. refl) (step_checks t r places) (next_run t r, step_record t r)
