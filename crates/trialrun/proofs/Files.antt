-- What is asked of a trial file's trial, and its full run.
--   buffers-hold                the buffers of the largest trial are long enough for every accepted one
--   file-refused, file-done     an answer of any kind, beside the file's trial: the file is turned away, or its trial is asked
use Prim.Native.Nat.{ℕ, ◌*◌}
use mathlib.Core.Path.{◌≡◌, refl, sym, ap, ap₂, ◌∙◌}
use mathlib.Core.List.{List}
use borrow.Author.Tests.{le-ltb}
use native.Mathlib.Omega.{arith}
use Rattle.std.proofs.Common.{Result, Ok, Err}
use Rattle.limits.specs.Limits.{trial_rows_most, trial_table_most}
use Rattle.refusals.specs.Answers.{outcome}
use Rattle.refusals.specs.declared.refusal.Refusal.{Refusal}
use Rattle.refusals.proofs.Answers.{none-join, none-holds, none_first, ok-none, ok-value, ok-for, err-for, outcome-ok}
use Rattle.refusals.specs.Buffers.{too_short}
use Rattle.trial.specs.Exchange.{row_total}
use Rattle.trial.specs.Refusals.{trial_checks, trial_refusal}
use Rattle.trial.specs.declared.Trial.{Trial}
use Rattle.trial.proofs.Accepted.{accepted}
use Rattle.trial.proofs.Calls.{total-most}
use Rattle.words.specs.Words.{words_of}
use Rattle.trialfile.specs.Files.{trial_of, file_checks, file_refusal, reading_of}
use Rattle.trialfile.proofs.Taken.{read-accepted}
use Rattle.runs.specs.declared.FullRun.{FullRun}
use Rattle.trialrun.specs.TrialRuns.{run_call_checks}
use Rattle.trialrun.specs.declared.FileRun.{FileRun}

pub buffers-hold : {A : Type 0} (done : A) (t : Trial) → trial_refusal t ≡ 0 → outcome (run_call_checks t trial_table_most trial_rows_most) done ≡ Ok done
unfolding row_total trial_refusal
buffers-hold done t e =
    let a = accepted t e in
    outcome-ok (run_call_checks t trial_table_most trial_rows_most) done
    (none-join (trial_checks t) _ (none-holds (trial_checks t) e)
    (le-ltb trial_table_most (row_total t * t.shape.offers) (total-most t a), (le-ltb trial_rows_most (row_total t) a.laid.rows-most, tt)))

abbrev pub pair_of : Trial → FullRun → FileRun
pair_of t r = record { trial = t; run = r }

module _ (bytes : List ℕ) {A B : Type 0} (pair : Trial → A → B) (done : Trial → A) where
  abbrev whole : B
  whole = pair (trial_of (words_of bytes)) (done (trial_of (words_of bytes)))

  pub file-refused : (r : Refusal) → reading_of bytes ≡ Err r → Err r ≡ outcome (file_checks bytes) (pair (trial_of (words_of bytes)) (done (trial_of (words_of bytes))))
  unfolding reading_of
  file-refused r h = sym (err-for (file_checks bytes) (trial_of (words_of bytes)) whole r h)

  module _ (t : Trial) (h : reading_of bytes ≡ Ok t) where
    taken : t ≡ trial_of (words_of bytes)
    unfolding reading_of
    taken = ok-value (file_checks bytes) (trial_of (words_of bytes)) t h

    accepted-file : file_refusal bytes ≡ 0
    unfolding reading_of file_refusal
    accepted-file = none_first (file_checks bytes) (ok-none (file_checks bytes) (trial_of (words_of bytes)) t h)

    asked : outcome (run_call_checks t trial_table_most trial_rows_most) (done t) ≡ Ok (done (trial_of (words_of bytes)))
    asked =
        ap (λ (u : Trial). outcome (run_call_checks u trial_table_most trial_rows_most) (done u)) taken
        ∙ buffers-hold (done (trial_of (words_of bytes))) (trial_of (words_of bytes)) (read-accepted bytes accepted-file)

    -- the file's trial is accepted, so nothing turns its run away
    pub never-turned : (r : Refusal) → outcome (run_call_checks t trial_table_most trial_rows_most) (done t) ≡ Err r → ⊥
    never-turned r e = cc (asked, e)

    pub file-done : (x : A) → outcome (run_call_checks t trial_table_most trial_rows_most) (done t) ≡ Ok x → Ok (pair t x) ≡ outcome (file_checks bytes) (pair (trial_of (words_of bytes)) (done (trial_of (words_of bytes))))
    unfolding reading_of
    file-done x e =
        ap Ok (ap₂ pair taken (cc (asked, e)))
        ∙ sym (ok-for (file_checks bytes) (trial_of (words_of bytes)) t whole h)
