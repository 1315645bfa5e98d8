-- The table of a trial in its buffer, made for a run with a work buffer: each answer of `table_for_run`, and what an accepted one tells its callers.
--   size-turned, size-known        the size's call: the record is turned away, or the size is the whole one
--   table-given, table-made        the table's own call has nothing to refuse where the buffer is long enough
--   run_turned, run_short, run_cramped, run-accepted     each answer of any call with both buffers, by the size that was told
--   kept, made, never              the table buffer after a refused answer and an accepted one
--   turned-answer, turned-buffer   a refused call of any kind: its answer and its buffers
--   free, changed                  an accepted one
--   ok, good, rows_are, columns-are, live-is, same_total, small     what is known of the trial of an accepted call, and the size that was told
--   work-room, room, filled, front                         both buffers, and the table in its own
--   asked                          what is asked of that table
use Prim.Native.Nat.{ℕ, ◌*◌, ◌≤◌, ◌<◌}
use native.Mathlib.Omega.{arith}
use mathlib.Core.Path.{◌≡◌, refl, sym, ap, ap₂, ◌∙◌}
use mathlib.Core.Bool.{Bool, true, false, cond}
use mathlib.Core.List.{List, ◌++◌}
use lib.ListN.{length, take, drop, length-append}
use lib.Dec.{ltb}
use lib.Seq.{take_at}
use lib.Ieee.{Float}
use borrow.Author.Tests.{ltb-false}
use Rattle.std.proofs.Common.{Result, Ok, Err}
use Rattle.limits.specs.Limits.{trial_table_most}
use Rattle.refusals.specs.Answers.{Checks, r12, outcome, first_refusal, afterwards}
use Rattle.refusals.specs.declared.refusal.Refusal.{Refusal}
use Rattle.refusals.specs.Buffers.{too_short, written, cleared}
use Rattle.refusals.proofs.Answers.{NoneHolds, none_first, none-append, none-join, outcome-ok, ok-none, ok-value, ok-for, err-for, ok_answer, err_answer, ok-append, err-append}
use Rattle.trial.specs.Aside.{live_mask}
use Rattle.trial.specs.Exchange.{row_total, table_of}
use Rattle.trial.specs.Lent.{full_size, size_of, table_call_checks, table_buffer}
use Rattle.trial.specs.Refusals.{trial_checks, trial_refusal}
use Rattle.trial.specs.declared.Trial.{Trial}
use Rattle.trial.specs.declared.TableSize.{TableSize}
use Rattle.trial.proofs.Accepted.{Accepted, accepted}
use Rattle.trial.proofs.Tables.{table_of-length}
use Rattle.trial.proofs.Calls.{total-most}
use Rattle.trialrun.specs.TrialRuns.{run_call_checks, run_size, run_table, run_work}

-- ---- each answer, by the size that was told

module _ (t : Trial) where
  pub size-known : (s : TableSize) → size_of t ≡ Ok s → s ≡ full_size t
  unfolding size_of
  size-known s h = ok-value (trial_checks t) (full_size t) s h

  pub size-fits : (s : TableSize) → size_of t ≡ Ok s → s.rows * s.columns ≤ trial_table_most
  unfolding size_of trial_refusal
  size-fits s h =
      let a = accepted t (none_first (trial_checks t) (ok-none (trial_checks t) (full_size t) s h)) in
      omega (arith, ap (λ (x : TableSize). x.rows * x.columns) (size-known s h), total-most t a)

  module _ (places work : ℕ) where
    abbrev rooms : Checks
    rooms = too_short places (row_total t * t.shape.offers) ++ too_short work (row_total t)

    pub run_turned : (r : Refusal) → size_of t ≡ Err r → run_size t places work ≡ Err r
    unfolding size_of run_size
    run_turned r h = err-append (trial_checks t) rooms (full_size t) (full_size t) r h

    module _ (s : TableSize) (h : size_of t ≡ Ok s) where
      past : run_size t places work ≡ outcome rooms (full_size t)
      unfolding size_of run_size
      past = ok-append (trial_checks t) rooms (full_size t) s (full_size t) h

      -- by what the two buffers are compared with
      by-rooms : (x y : Bool) → ltb places (s.rows * s.columns) ≡ x → ltb work s.rows ≡ y → run_size t places work ≡ cond x (Err r12) (cond y (Err r12) (Ok s))
      by-rooms x y p q =
          let e = size-known s h in
          past
          ∙ ap (λ (u : TableSize). cond (ltb places (u.rows * u.columns)) (Err r12) (cond (ltb work u.rows) (Err r12) (Ok u))) (sym e)
          ∙ ap₂ (λ (b c : Bool). cond b (Err r12) (cond c (Err r12) (Ok s))) p q

      pub run_short : ltb places (s.rows * s.columns) ≡ true → run_size t places work ≡ Err r12
      run_short p = by-rooms true (ltb work s.rows) p refl

      pub run_cramped : ltb places (s.rows * s.columns) ≡ false → ltb work s.rows ≡ true → run_size t places work ≡ Err r12
      run_cramped p q = by-rooms false true p q

      pub run-accepted : ltb places (s.rows * s.columns) ≡ false → ltb work s.rows ≡ false → run_size t places work ≡ Ok s
      run-accepted p q = by-rooms false false p q

      -- the table's own call then has nothing to refuse
      module _ (p : ltb places (s.rows * s.columns) ≡ false) where
        table-passes : NoneHolds (table_call_checks t places)
        unfolding size_of table_call_checks
        table-passes =
            let e = size-known s h in
            none-join (trial_checks t) (too_short places (row_total t * t.shape.offers)) (ok-none (trial_checks t) (full_size t) s h)
            (ap (λ (u : TableSize). ltb places (u.rows * u.columns)) (sym e) ∙ p, tt)

        pub table-given : outcome {A = Unit {0}} (table_call_checks t places) tt ≡ Ok tt
        table-given = outcome-ok (table_call_checks t places) tt table-passes

        pub table-made : {A : Type 0} (new old : A) → afterwards (table_call_checks t places) new old ≡ new
        table-made new old = ok_answer (table_call_checks t places) tt tt new (λ _. old) table-given

-- ---- the buffer after `table_for_run`, by its answer

module _ (t : Trial) (table : List Float) (work : ℕ) where
  pub kept : (r : Refusal) → run_size t (length table) work ≡ Err r → run_table t table work ≡ table
  unfolding run_size run_table
  kept r q = err_answer (run_call_checks t (length table) work) (full_size t) r (written (table_of t) table) (λ _. table) q

module _ (t : Trial) (table : List Float) where
  module _ (s : TableSize) (h : size_of t ≡ Ok s) (p : ltb (length table) (s.rows * s.columns) ≡ false) where
    pub never : (r : Refusal) → outcome {A = Unit {0}} (table_call_checks t (length table)) tt ≡ Err r → ⊥
    never r e = cc (table-given t (length table) 0 s h p, e)

  pub made : (work : ℕ) (s : TableSize) (h : size_of t ≡ Ok s) (p : ltb (length table) (s.rows * s.columns) ≡ false) → run_size t (length table) work ≡ Ok s → table_buffer t table ≡ run_table t table work
  unfolding run_size run_table table_buffer
  made work s h p q =
      table-made t (length table) 0 s h p (written (table_of t) table) table
      ∙ sym (ok_answer (run_call_checks t (length table) work) (full_size t) s (written (table_of t) table) (λ _. table) q)

-- ---- a refused call of any kind: its answer and both buffers

module _ (t : Trial) (table work : List Float) (r : Refusal) (q : run_size t (length table) (length work) ≡ Err r) where
  abbrev turned-checks : Checks
  turned-checks = run_call_checks t (length table) (length work)

  pub turned-answer : {A : Type 0} (done : A) → outcome (run_call_checks t (length table) (length work)) done ≡ Err r
  unfolding run_size
  turned-answer done = err-for turned-checks (full_size t) done r q

  pub turned-buffer : {A : Type 0} (new old : A) → afterwards (run_call_checks t (length table) (length work)) new old ≡ old
  unfolding run_size
  turned-buffer new old = err_answer turned-checks (full_size t) r new (λ _. old) q

-- ---- what an accepted answer tells its callers

module _ (t : Trial) (table work : List Float) (s : TableSize) (q : run_size t (length table) (length work) ≡ Ok s) where
  abbrev checks : Checks
  checks = run_call_checks t (length table) (length work)

  full : s ≡ full_size t
  unfolding run_size
  full = ok-value checks (full_size t) s q

  none : NoneHolds checks
  unfolding run_size
  none = ok-none checks (full_size t) s q

  pub free : {A : Type 0} (done : A) → outcome (run_call_checks t (length table) (length work)) done ≡ Ok done
  unfolding run_size
  free done = ok-for checks (full_size t) s done q

  pub changed : {A : Type 0} (new old : A) → afterwards (run_call_checks t (length table) (length work)) new old ≡ new
  unfolding run_size
  changed new old = ok_answer checks (full_size t) s new (λ _. old) q

  pub rows_are : s.rows ≡ row_total t
  rows_are = ap (λ (x : TableSize). x.rows) full

  pub columns-are : s.columns ≡ t.shape.offers
  columns-are = ap (λ (x : TableSize). x.columns) full

  pub live-is : s.live ≡ live_mask t
  live-is = ap (λ (x : TableSize). x.live) full

  pub same_total : s.rows * s.columns ≡ row_total t * t.shape.offers
  same_total = ap₂ (λ (m n : ℕ). m * n) rows_are columns-are

  passed : NoneHolds (trial_checks t) × NoneHolds (too_short (length table) (row_total t * t.shape.offers) ++ too_short (length work) (row_total t))
  passed = none-append (trial_checks t) (too_short (length table) (row_total t * t.shape.offers) ++ too_short (length work) (row_total t)) none

  pub ok : trial_refusal t ≡ 0
  unfolding trial_refusal
  ok = none_first (trial_checks t) passed.0

  pub good : Accepted t
  good = accepted t ok

  pub work-room : row_total t ≤ length work
  work-room = ltb-false (length work) (row_total t) passed.1.1.0

  pub small : s.rows * s.columns ≤ trial_table_most
  small = omega (arith, same_total, total-most t good)

  -- the table buffer after it
  module _ (w : List Float) (e : w ≡ run_table t table (length work)) where
    pub filled : w ≡ written (table_of t) table
    unfolding run_table
    filled = e ∙ changed (written (table_of t) table) table

    pub room : s.rows * s.columns ≤ length w
    room = omega (arith, ap length filled ∙ length-append (table_of t) (drop (length (table_of t)) table), table_of-length t, same_total)

    pub front : take (s.rows * s.columns) w ≡ table_of t
    front = ap (take (s.rows * s.columns)) filled ∙ take_at (table_of t) (drop (length (table_of t)) table) (s.rows * s.columns) (table_of-length t ∙ sym same_total)

  -- of a table at the front of a buffer, by the size that was told
  pub asked : {A : Type 0} (f : List Float → ℕ → ℕ → A) (x y : List Float) → x ≡ y → f x s.rows s.columns ≡ f y (row_total t) t.shape.offers
  asked f x y p = ap₂ (λ (u : List Float) (m : ℕ). f u m s.columns) p rows_are ∙ ap (f y (row_total t)) columns-are
