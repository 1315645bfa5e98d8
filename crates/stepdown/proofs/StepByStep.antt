-- Runs taken step by step.
--   step-sound           an accepted step hands back a run that is not spoiled
--   step-again, step-over     the next step is accepted, or refused by 13 where the run has ended
--   step-ended           the stopping rule: the run has ended after a step exactly where that rejected nothing, fewer than k are rejected, or none is left
--   begin-accepted, begin-step    a run can be begun with the figures of an accepted table, and stepped over it
--   stepping             stepping until a step is refused gives the records of the full run
--   stepping-steps       and its steps: the runs that are handed back have its rejected sets
--   stepping-ends        the step that is refused is refused by 13
use Prim.Native.Nat.{ℕ, zero, suc, ◌+◌, ◌*◌, ◌≤◌, ◌<◌}
use native.Mathlib.Omega.{arith}
use mathlib.Core.Path.{◌≡◌, refl, sym, ap, ◌∙◌}
use mathlib.Core.Logic.{◌↔◌, ◌⊎◌}
use mathlib.Core.Bool.{Bool, true, false, not, cond}
use mathlib.Core.List.{List, [], ◌∷◌, map}
use lib.ListN.{length}
use lib.Dec.{eqb}
use lib.Pow.{pow_pos}
use lib.Ieee.{Float}
use borrow.Author.Tests.{eq-eqb, le-ltb, lt-leb}
use Rattle.std.proofs.Common.{Ok}
use Rattle.order.specs.Order.{finite}
use Rattle.order.specs.Counting.{all}
use Rattle.order.specs.Lists.{rows_of}
use Rattle.order.proofs.Booleans.{T_true, not-no}
use Rattle.refusals.specs.Answers.{first_refusal, r9, r11}
use Rattle.refusals.specs.Limits.{allowance}
use Rattle.refusals.specs.Buffers.{too_short}
use Rattle.refusals.proofs.Answers.{none_first, none-holds, refused, outcome-ok, outcome-answer}
use Rattle.columns.specs.Columns.{size, full_mask}
use Rattle.runs.specs.Stepdown.{rejected_set, newly_rejected, next, steps_from, steps_of, full_run, left_over}
use Rattle.runs.specs.Tables.{table_start, table_run}
use Rattle.runs.specs.declared.State.{State}
use Rattle.runs.specs.declared.Step.{Step}
use Rattle.runs.specs.declared.Record.{Record}
use Rattle.runs.proofs.Steps.{GoingOn, going_on, ended-exactly}
use Rattle.runs.proofs.Start.{table-open}
use Rattle.runs.proofs.Termination.{left-falls}
use Rattle.masks.specs.Internal.{CheckedTable}
use Rattle.engine.specs.Internal.{CanStep}
use Rattle.engine.proofs.OneStep.{in-progress, next_fits}
use Rattle.stepdown.specs.Runs.{begun, state_of, resume, next_run, step_record}
use Rattle.stepdown.specs.Refusals.{bad_value, table_run_refusal, bad_figures, any, progress_clauses, spoiled, step_checks, step_refusal}
use Rattle.stepdown.specs.Answers.{begin_answer, step_answer}
use Rattle.stepdown.specs.Stepping.{StepTaken, onward, stepped, stepped_records, last_run}
use Rattle.stepdown.specs.declared.Run.{Run}
use Rattle.stepdown.proofs.Accepted.{table-accepted, accepted-checked, table-room, table-figures}
use Rattle.stepdown.proofs.Spoiled.{ended-at-start, ended-later, none_left, spoiled-else, figures-none}
use Rattle.stepdown.proofs.Calls.{begin-on, step-figures, step-behind, step_room, step-known, sides}

-- ---- the refusal of a run that is not spoiled

module _ (t : List Float) (r : Run) (places : ℕ) (ready : CheckedTable t r.rows r.columns r.k) (room : r.rows ≤ places) where
  judged : spoiled r ≡ false → step_refusal t r places ≡ cond r.ended 13 0
  unfolding step_refusal bad_value
  judged h =
      ap (λ (b : Bool). cond b 14 (cond r.ended 13 (first_refusal ((not (eqb (length t) (r.rows * r.columns)), r9) ∷ (not (all finite t), r11) ∷ too_short places r.rows)))) h
      ∙ ap (cond r.ended 13) (none_first ((not (eqb (length t) (r.rows * r.columns)), r9) ∷ (not (all finite t), r11) ∷ too_short places r.rows)
      (not-no _ (eq-eqb (length t) (r.rows * r.columns) ready.full), (not-no _ (T_true (all finite t) ready.finitely), (le-ltb places r.rows room, tt))))

-- ---- the run after an accepted step

module _ (t : List Float) (r : Run) (places : ℕ) (h : step_refusal t r places ≡ 0) where
  abbrev X : List (List Float)
  X = rows_of r.rows r.columns t

  can : CanStep t (state_of r)
  can = step-known t r places h

  -- each step has rejected a column, and one is left
  few : r.steps < 32
  few = omega (arith, step-behind t r places h, sides r, can.left, can.ready.cols-most)

  same-figures : bad_figures (next_run t r) ≡ false
  unfolding bad_figures
  same-figures = step-figures t r places h

  still-inside : (next_run t r).rejected ≤ full_mask r.columns
  still-inside = omega (arith, next_fits t (state_of r) can, pow_pos r.columns)

  pub step-ended : ((next_run t r).ended ≡ true) ↔ ((size (newly_rejected X (state_of r)) ≡ 0) ⊎ ((size (rejected_set (state_of (next_run t r))) < r.k) ⊎ (size (left_over (state_of (next_run t r))) ≡ 0)))
  unfolding next
  step-ended = let p = in-progress t (state_of r) can in ended-exactly X (state_of r) p.sound p.seen

  module _ (on : (next_run t r).ended ≡ false) where
    goes : GoingOn X (state_of r) (in-progress t (state_of r) can).sound (in-progress t (state_of r) can).seen
    goes = going_on X (state_of r) (in-progress t (state_of r) can).sound (in-progress t (state_of r) can).seen on

    still-behind : r.steps + 1 ≤ size (rejected_set (state_of (next_run t r)))
    unfolding next
    still-behind = let p = in-progress t (state_of r) can in omega (arith, step-behind t r places h, goes.rejects, sides r, sides (next_run t r), left-falls X (state_of r) p.sound p.seen)

    still-left : size (rejected_set (state_of (next_run t r))) < r.columns
    unfolding next
    still-left = omega (arith, sides (next_run t r), goes.left)

    still-many : r.k ≤ size (rejected_set (state_of (next_run t r)))
    unfolding next
    still-many = goes.many

  progressed : (b : Bool) → (next_run t r).ended ≡ b → any (progress_clauses (next_run t r)) ≡ false
  unfolding next
  progressed true d = sym (ended-later (next_run t r) (full_mask r.columns) refl still-inside (omega (arith, few)) (λ z. omega arith) d)
  progressed false d =
      sym (none_left (next_run t r) (full_mask r.columns) refl still-inside (omega (arith, few)) (λ z. omega arith) d (size (rejected_set (state_of (next_run t r)))) refl (still-behind d) (still-many d))
      ∙ lt-leb r.columns (size (rejected_set (state_of (next_run t r)))) (still-left d)

  pub step-sound : spoiled (next_run t r) ≡ false
  step-sound = sym (spoiled-else (next_run t r) false same-figures (sym (progressed (next_run t r).ended refl)))

  next-refusal : step_refusal t (next_run t r) places ≡ cond (next_run t r).ended 13 0
  next-refusal = judged t (next_run t r) places can.ready (step_room t r places h) step-sound

  pub step-again : (next_run t r).ended ≡ false → step_refusal t (next_run t r) places ≡ 0
  step-again e = next-refusal ∙ ap (λ (b : Bool). cond b 13 0) e

  pub step-over : (next_run t r).ended ≡ true → step_refusal t (next_run t r) places ≡ 13
  step-over e = next-refusal ∙ ap (λ (b : Bool). cond b 13 0) e

-- ---- a run that is begun

module _ (t : List Float) (rows columns k a b observed places : ℕ) (h : table_run_refusal t rows columns k a b observed places ≡ 0) where
  pub begin-accepted : begin_answer rows columns k a b observed ≡ Ok (begun rows columns k a b observed)
  begin-accepted = begin-on rows columns k a b observed (figures-none (begun rows columns k a b observed) (table-figures t rows columns k a b observed places h))

  begun-unspoiled : spoiled (begun rows columns k a b observed) ≡ false
  begun-unspoiled = sym (spoiled-else (begun rows columns k a b observed) false (table-figures t rows columns k a b observed places h)
      (ended-at-start (begun rows columns k a b observed) (full_mask columns) refl (omega arith) (omega arith) refl refl))

  pub begin-step : step_refusal t (begun rows columns k a b observed) places ≡ 0
  begin-step = judged t (begun rows columns k a b observed) places (accepted-checked t rows columns k a b observed (table-accepted t rows columns k a b observed places h)) (table-room t rows columns k a b observed places h) begun-unspoiled

  -- the begun run is in the first state of the table
  pub begun-state : state_of (begun rows columns k a b observed) ≡ table_start rows columns k a b observed
  begun-state = ap (λ (d : Bool). record { rows = rows; columns = columns; k = k; e = allowance rows a b; observed = observed; live = full_mask columns; rejected = 0; steps = 0; ended = d })
      (sym (table-open columns k (table-accepted t rows columns k a b observed places h).shaped.k-held))

-- ---- asking for steps until one is refused

module _ (t : List Float) (places : ℕ) where
  -- the step that an accepted run takes
  abbrev taken : Run → StepTaken
  taken r = record { run = next_run t r; logged = step_record t r }

  -- a step of the engine, as one of the run
  abbrev of_run : Run → Step → StepTaken
  of_run r s = record { run = resume r s.state; logged = s.logged }

  stepped-on : (n : ℕ) (r : Run) → step_refusal t r places ≡ 0 → stepped (suc n) t places r ≡ taken r ∷ stepped n t places (next_run t r)
  unfolding stepped step_answer step_refusal
  stepped-on n r h = ap (λ x. onward x (λ s. stepped n t places s)) (outcome-ok (step_checks t r places) (next_run t r, step_record t r) (none-holds (step_checks t r places) h))

  stepped-over : (n : ℕ) (r : Run) → step_refusal t r places ≡ 13 → stepped n t places r ≡ []
  unfolding stepped step_answer step_refusal
  stepped-over zero r h = refl
  stepped-over (suc n) r h = outcome-answer (λ x. onward x (λ s. stepped n t places s)) (λ _. []) (λ _. refl) (step_checks t r places) (next_run t r, step_record t r) ∙ sym (refused (taken r ∷ stepped n t places (next_run t r)) (λ _. []) (step_checks t r places) 13 (sym h) (λ z. omega arith))

  -- beside the steps from r on; `b` is whether r has ended, and 32 steps are enough
  beside : (m n : ℕ) (b : Bool) (r : Run) → step_refusal t r places ≡ cond b 13 0 → 32 ≤ m + r.steps → m ≤ n
      → stepped n t places r ≡ map (of_run r) (steps_from m b (rows_of r.rows r.columns t) (state_of r))
  unfolding steps_from next
  beside zero n true r h q l = stepped-over n r h
  beside (suc m) n true r h q l = stepped-over n r h
  beside zero n false r h q l = absurd (omega (arith, few t r places h))
  beside (suc m) zero false r h q l = absurd (omega arith)
  beside (suc m) (suc n) false r h q l =
      stepped-on n r h
      ∙ ap (λ (ss : List StepTaken). taken r ∷ ss) (beside m n (next_run t r).ended (next_run t r) (next-refusal t r places h) (omega arith) (omega arith))

  over-at-last : (n : ℕ) (b : Bool) (r : Run) → step_refusal t r places ≡ cond b 13 0 → 32 ≤ n + r.steps → step_refusal t (last_run r (stepped n t places r)) places ≡ 13
  unfolding stepped last_run next
  over-at-last zero true r h q = h
  over-at-last (suc n) true r h q = ap (λ (ss : List StepTaken). step_refusal t (last_run r ss) places) (stepped-over (suc n) r h) ∙ h
  over-at-last zero false r h q = absurd (omega (arith, few t r places h))
  over-at-last (suc n) false r h q =
      ap (λ (ss : List StepTaken). step_refusal t (last_run r ss) places) (stepped-on n r h)
      ∙ over-at-last n (next_run t r).ended (next_run t r) (next-refusal t r places h) (omega arith)

-- ---- the full run, step by step

logged-same : (t : List Float) (places : ℕ) (r : Run) (ss : List Step) → map (λ (s : StepTaken). s.logged) (map (of_run t places r) ss) ≡ map (λ (s : Step). s.logged) ss
logged-same t places r [] = refl
logged-same t places r (s ∷ ss) = ap (λ (l : List Record). s.logged ∷ l) (logged-same t places r ss)

module _ (t : List Float) (rows columns k a b observed places : ℕ) (h : table_run_refusal t rows columns k a b observed places ≡ 0) (n : ℕ) (enough : 32 ≤ n) where
  pub stepping-steps : stepped n t places (begun rows columns k a b observed) ≡ map (of_run t places (begun rows columns k a b observed)) (steps_of (rows_of rows columns t) (table_start rows columns k a b observed))
  unfolding steps_of
  stepping-steps =
      beside t places 32 n false (begun rows columns k a b observed) (begin-step t rows columns k a b observed places h) (omega arith) enough
      ∙ ap (λ (s : State). map (of_run t places (begun rows columns k a b observed)) (steps_from 32 s.ended (rows_of rows columns t) s)) (begun-state t rows columns k a b observed places h)

  pub stepping : stepped_records n t places (begun rows columns k a b observed) ≡ (table_run t rows columns k a b observed).records
  unfolding stepped_records table_run full_run
  stepping = ap (map (λ (s : StepTaken). s.logged)) stepping-steps ∙ logged-same t places (begun rows columns k a b observed) (steps_of (rows_of rows columns t) (table_start rows columns k a b observed))

  pub stepping-ends : step_refusal t (last_run (begun rows columns k a b observed) (stepped n t places (begun rows columns k a b observed))) places ≡ 13
  stepping-ends = over-at-last t places n false (begun rows columns k a b observed) (begin-step t rows columns k a b observed places h) (omega arith)
