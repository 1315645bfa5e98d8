-- What each call leaves, from what it asks for: the number, a place that is left alone where the call is refused, and one that is given a part where it is accepted.
--   read_zero, read_number, read_kept, read-given           of `bench_read`
--   answer-moved, buffer_moved                   what writing answers and leaves, of an equal trial
--   table-moved, places-moved                    what making a table answers and leaves, of an equal trial
--   table-zero, table-number                     of `bench_trial_table`
--   write-zero, write-number, write_kept, write-given        of `bench_write`
--   render-zero, render-number, render-kept, render-given     of `bench_report`
--   run-zero, run-number, run-kept, run-given              of `bench_table`
use Prim.Native.Nat.{ℕ}
use mathlib.Core.Path.{◌≡◌, ap, ◌∙◌}
use mathlib.Core.List.{List}
use lib.ListN.{length}
use lib.Ieee.{Float}
use Rattle.std.proofs.Common.{Result, Ok, Err}
use Rattle.refusals.specs.Answers.{number, outcome}
use Rattle.refusals.specs.declared.refusal.Refusal.{Refusal}
use Rattle.runs.specs.FullRuns.{accepted_run}
use Rattle.runs.specs.Tables.{table_run}
use Rattle.runs.specs.declared.FullRun.{FullRun}
use Rattle.stepdown.specs.Refusals.{table_run_checks, table_run_refusal}
use Rattle.stepdown.specs.Answers.{full_answer}
use Rattle.trial.specs.Lent.{table_call_checks, table_call_refusal, table_buffer}
use Rattle.trial.specs.declared.Trial.{Trial}
use Rattle.words.specs.Words.{words_of}
use Rattle.trialfile.specs.Files.{trial_of, file_checks, file_refusal, reading_of}
use Rattle.trialwriter.specs.Writings.{file_length, write_checks, write_refusal, writing_of, after_writing}
use Rattle.rendering.specs.Reports.{report_of}
use Rattle.rendering.specs.Renderings.{render_checks, render_refusal, rendering_of}
use Rattle.benchcalls.specs.Calls.{from_file, length_written, length_rendered, from_table}
use Rattle.benchcalls.proofs.Handed.{handed_zero, handed-number, handed-nothing, handed_out}

-- ---- reading

module _ (bytes : List ℕ) where
  abbrev read-all : Trial
  read-all = trial_of (words_of bytes)

  module _ (t : Trial) (e : Ok t ≡ reading_of bytes) where
    pub read_zero : 0 ≡ file_refusal bytes
    unfolding reading_of file_refusal
    read_zero = handed_zero (file_checks bytes) read-all t e

    pub read-given : {A : Type 0} (part : Trial → A) (old : A) → part t ≡ from_file part bytes old
    unfolding reading_of from_file
    read-given part old = handed_out (file_checks bytes) read-all t e part old

  module _ (r : Refusal) (e : Err r ≡ reading_of bytes) where
    pub read_number : (n : ℕ) → n ≡ number r → n ≡ file_refusal bytes
    unfolding reading_of file_refusal
    read_number n q = handed-number (file_checks bytes) read-all r e n q

    pub read_kept : {A : Type 0} (part : Trial → A) (old : A) → old ≡ from_file part bytes old
    unfolding reading_of from_file
    read_kept part old = handed-nothing (file_checks bytes) read-all r e part old

-- ---- writing

-- the trial that is written is the one that the arrays hold
module _ (u t : Trial) (q : u ≡ t) where
  pub answer-moved : (places : ℕ) (x : Result ℕ Refusal) → x ≡ writing_of u places → x ≡ writing_of t places
  answer-moved places x e = e ∙ ap (λ (v : Trial). writing_of v places) q

  pub buffer_moved : (old out : List ℕ) → out ≡ after_writing u old → out ≡ after_writing t old
  buffer_moved old out e = e ∙ ap (λ (v : Trial). after_writing v old) q

  -- and so is the one whose table is made
  pub table-moved : (places : ℕ) (x : Result (Unit {0}) Refusal) → x ≡ outcome (table_call_checks u places) (tt {0}) → x ≡ outcome (table_call_checks t places) (tt {0})
  table-moved places x e = e ∙ ap (λ (v : Trial). outcome (table_call_checks v places) (tt {0})) q

  pub places-moved : (old out : List Float) → out ≡ table_buffer u old → out ≡ table_buffer t old
  places-moved old out e = e ∙ ap (λ (v : Trial). table_buffer v old) q

module _ (t : Trial) (places : ℕ) where
  pub table-zero : (x : Unit {0}) → Ok x ≡ outcome (table_call_checks t places) (tt {0}) → 0 ≡ table_call_refusal t places
  unfolding table_call_refusal
  table-zero x e = handed_zero (table_call_checks t places) (tt {0}) x e

  pub table-number : (r : Refusal) → Err r ≡ outcome (table_call_checks t places) (tt {0}) → (n : ℕ) → n ≡ number r → n ≡ table_call_refusal t places
  unfolding table_call_refusal
  table-number r e n q = handed-number (table_call_checks t places) (tt {0}) r e n q

module _ (t : Trial) (places : ℕ) where
  abbrev write-all : ℕ
  write-all = file_length t

  module _ (l : ℕ) (e : Ok l ≡ writing_of t places) where
    pub write-zero : 0 ≡ write_refusal t places
    unfolding writing_of write_refusal
    write-zero = handed_zero (write_checks t places) write-all l e

    pub write-given : (old : ℕ) → l ≡ length_written t places old
    unfolding writing_of length_written
    write-given old = handed_out (write_checks t places) write-all l e (λ y. y) old

  module _ (r : Refusal) (e : Err r ≡ writing_of t places) where
    pub write-number : (n : ℕ) → n ≡ number r → n ≡ write_refusal t places
    unfolding writing_of write_refusal
    write-number n q = handed-number (write_checks t places) write-all r e n q

    pub write_kept : (old : ℕ) → old ≡ length_written t places old
    unfolding writing_of length_written
    write_kept old = handed-nothing (write_checks t places) write-all r e (λ y. y) old

-- ---- the report

module _ (bytes : List ℕ) (places : ℕ) where
  abbrev render-all : ℕ
  render-all = length (report_of bytes)

  module _ (l : ℕ) (e : Ok l ≡ rendering_of bytes places) where
    pub render-zero : 0 ≡ render_refusal bytes places
    unfolding rendering_of render_refusal
    render-zero = handed_zero (render_checks bytes places) render-all l e

    pub render-given : (old : ℕ) → l ≡ length_rendered bytes places old
    unfolding rendering_of length_rendered
    render-given old = handed_out (render_checks bytes places) render-all l e (λ y. y) old

  module _ (r : Refusal) (e : Err r ≡ rendering_of bytes places) where
    pub render-number : (n : ℕ) → n ≡ number r → n ≡ render_refusal bytes places
    unfolding rendering_of render_refusal
    render-number n q = handed-number (render_checks bytes places) render-all r e n q

    pub render-kept : (old : ℕ) → old ≡ length_rendered bytes places old
    unfolding rendering_of length_rendered
    render-kept old = handed-nothing (render_checks bytes places) render-all r e (λ y. y) old

-- ---- a full run

module _ (t : List Float) (rows columns k a b observed places : ℕ) where
  abbrev run-all : FullRun
  run-all = accepted_run (table_run t rows columns k a b observed)

  module _ (x : FullRun) (e : Ok x ≡ full_answer t rows columns k a b observed places) where
    pub run-zero : 0 ≡ table_run_refusal t rows columns k a b observed places
    unfolding full_answer table_run_refusal
    run-zero = handed_zero (table_run_checks t rows columns k a b observed places) run-all x e

    pub run-given : {A : Type 0} (part : FullRun → A) (old : A) → part x ≡ from_table part t rows columns k a b observed places old
    unfolding full_answer from_table
    run-given part old = handed_out (table_run_checks t rows columns k a b observed places) run-all x e part old

  module _ (r : Refusal) (e : Err r ≡ full_answer t rows columns k a b observed places) where
    pub run-number : (n : ℕ) → n ≡ number r → n ≡ table_run_refusal t rows columns k a b observed places
    unfolding full_answer table_run_refusal
    run-number n q = handed-number (table_run_checks t rows columns k a b observed places) run-all r e n q

    pub run-kept : {A : Type 0} (part : FullRun → A) (old : A) → old ≡ from_table part t rows columns k a b observed places old
    unfolding full_answer from_table
    run-kept part old = handed-nothing (table_run_checks t rows columns k a b observed places) run-all r e part old
