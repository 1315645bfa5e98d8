-- Laws of the calls for the verdicts of a file.
--   told-refused, told-short, told-done     each answer of `tell` with its buffer: the run is refused, 12, the verdicts are written
--   file-tellable, file-told     a file's run, over the rows of the trial's table or any in their place: what `tell` requires, and what the call gives
use Prim.Native.Nat.{ℕ, ◌+◌, ◌≤◌, ◌<◌}
use native.Mathlib.Omega.{arith}
use mathlib.Core.Path.{◌≡◌, refl, sym, ap, ◌∙◌, subst}
use mathlib.Core.List.{List, map}
use lib.ListN.{length, take}
use lib.Dec.{T}
use lib.Ieee.{Float}
use Rattle.std.proofs.Common.{Result, Ok, Err}
use Rattle.std.proofs.lemmas.List.{take-map}
use Rattle.refusals.specs.Answers.{number}
use Rattle.refusals.specs.declared.refusal.Refusal.{Refusal}
use Rattle.refusals.specs.Buffers.{written}
use Rattle.runs.specs.Stepdown.{Outcome, full_run}
use Rattle.runs.specs.FullRuns.{accepted_run}
use Rattle.verdicts.specs.Verdicts.{verdict_byte, rejected_count}
use Rattle.verdicts.specs.Internal.{small_bytes}
use Rattle.verdicts.proofs.Bytes.{run-bytes}
use Rattle.trial.specs.declared.Trial.{Trial}
use Rattle.trial.proofs.Accepted.{accepted}
use Rattle.words.specs.Words.{words_of}
use Rattle.trialfile.specs.Files.{trial_of, file_checks, file_refusal}
use Rattle.trialfile.proofs.Taken.{read-accepted}
use Rattle.trialrun.specs.TrialRuns.{trial_start}
use Rattle.trialrun.specs.FileRuns.{accepted_by, file_by}
use Rattle.trialrun.specs.declared.FileRun.{FileRun}
use Rattle.host.specs.Calls.{verdict_bytes, verdicts_answer, verdicts_buffer, file_offers, trial_verdicts_checks}
use Rattle.host.specs.Internal.{Tellable, Told}
use Rattle.host.proofs.Lent.{refused-by, passed, taken, given-refused, given-short, given-done}

-- ---- the answers; nothing but the buffer is lent

abbrev count : FileRun → ℕ
count f = rejected_count f.trial.shape.offers f.run.verdicts

abbrev bytes_in : FileRun → List ℕ
bytes_in f = verdict_bytes f.trial.shape.offers f.run.verdicts

module _ (x : Result FileRun Refusal) (buf : List ℕ) where
  pub told-refused : (r : Refusal) → x ≡ Err r → Told x buf (100 + number r) buf
  told-refused r i cs f e = let d = given-refused {A = Unit {0}} cs f.trial.shape.offers (count f) (bytes_in f) buf tt tt r (refused-by cs f r (sym i ∙ e)) in (d.0, d.1)

  module _ (g : FileRun) (i : x ≡ Ok g) where
    pub told-short : length buf < g.trial.shape.offers → Told x buf 112 buf
    told-short h cs f e =
        let q = taken cs f g (sym i ∙ e) in
        let d = given-short {A = Unit {0}} cs f.trial.shape.offers (count f) (bytes_in f) buf tt tt (passed cs f g (sym i ∙ e)) (omega (arith, ap (λ (y : FileRun). y.trial.shape.offers) q)) in
        (d.0, d.1)

    pub told-done : g.trial.shape.offers ≤ length buf → (r : ℕ) → r ≡ count g → (all : List ℕ) → all ≡ map verdict_byte g.run.verdicts → (out : List ℕ) → out ≡ written (take g.trial.shape.offers all) buf → Told x buf r out
    told-done h r p all m out o cs f e =
        let q = taken cs f g (sym i ∙ e) in
        let d = given-done {A = Unit {0}} cs f.trial.shape.offers (count f) (bytes_in f) buf tt tt (passed cs f g (sym i ∙ e)) (omega (arith, ap (λ (y : FileRun). y.trial.shape.offers) q))
        r (p ∙ ap count q)
        out (o ∙ ap (λ (l : List ℕ). written l buf) (ap (take g.trial.shape.offers) m ∙ take-map verdict_byte g.trial.shape.offers g.run.verdicts ∙ ap bytes_in q)) tt refl in
        (d.0, d.1)

-- ---- a file, whose trial is run over any rows

module _ (rows : Trial → List (List Float)) (bytes : List ℕ) where
  abbrev run : Trial → Outcome
  run t = full_run (rows t) (trial_start t)

  abbrev read : Trial
  read = trial_of (words_of bytes)

  abbrev done : FileRun
  done = accepted_by run read

  module _ (x : Result FileRun Refusal) (e : x ≡ file_by run bytes) where
    pub file-tellable : Tellable x
    unfolding file_refusal
    file-tellable = record {
      few = λ f i. omega (arith, ap (λ (y : FileRun). y.trial.shape.offers) (taken (file_checks bytes) done f (sym i ∙ e)), (accepted read (read-accepted bytes (passed (file_checks bytes) done f (sym i ∙ e)))).offers-most);
      small = λ f i. subst (λ (y : FileRun). T (small_bytes y.run.verdicts)) (sym (taken (file_checks bytes) done f (sym i ∙ e))) (run-bytes (rows read) (trial_start read) refl);
    }

    pub file-told : (buf : List ℕ) (r : ℕ) (out : List ℕ) → Told x buf r out
        → (r ≡ verdicts_answer (trial_verdicts_checks bytes (length buf)) (file_offers bytes) (accepted_run (run read)).verdicts)
        × (out ≡ verdicts_buffer (trial_verdicts_checks bytes (length buf)) (file_offers bytes) (accepted_run (run read)).verdicts buf)
    file-told buf r out told = told (file_checks bytes) done e
