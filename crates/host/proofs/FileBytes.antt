-- The byte of an offer in the buffer of a call on a file.
--   byte-told      it tells the verdict that the run gives the offer, where the call is accepted
use Prim.Native.Nat.{ℕ, ◌≤◌, ◌<◌}
use native.Mathlib.Omega.{arith}
use mathlib.Core.Path.{◌≡◌, ap, ◌∙◌}
use mathlib.Core.List.{List}
use lib.ListN.{length, get_or, take, drop, length-map, get_or-append}
use lib.Seq.{get_or-take, length-take-le}
use lib.Ieee.{Float}
use Rattle.order.specs.Order.{plus_zero}
use Rattle.order.proofs.Lists.{get_d_map, padded-length}
use Rattle.refusals.specs.Answers.{first_refusal}
use Rattle.refusals.specs.Buffers.{too_short, written}
use Rattle.refusals.proofs.Answers.{answered, both-pass}
use Rattle.runs.specs.Stepdown.{Outcome, full_run}
use Rattle.runs.specs.FullRuns.{accepted_run}
use Rattle.runs.specs.declared.Verdict.{Verdict}
use Rattle.runs.specs.declared.Verdict.TheVariants.{Kept}
use Rattle.runs.proofs.ToldColumns.{verdicts-length, verdict-held}
use Rattle.verdicts.specs.Verdicts.{verdict_byte}
use Rattle.trial.specs.declared.Trial.{Trial}
use Rattle.trial.proofs.Accepted.{accepted}
use Rattle.words.specs.Words.{words_of}
use Rattle.trialfile.specs.Files.{trial_of, file_checks, file_refusal}
use Rattle.trialfile.proofs.Taken.{read-accepted}
use Rattle.trialrun.specs.TrialRuns.{trial_start}
use Rattle.host.specs.Calls.{verdict_bytes, verdicts_buffer, file_offers, trial_verdicts_checks}

held-length : (o : Outcome) → length o.verdicts ≤ 32 → length (accepted_run o).verdicts ≡ 32
unfolding accepted_run
held-length o h = padded-length 32 (Kept plus_zero) o.verdicts h

-- the first n of the bytes of an outcome's verdicts
byte_at : (o : Outcome) (n i : ℕ) (buf : List ℕ) (d : Verdict) → length o.verdicts ≡ n → i < n → n ≤ 32
    → get_or (written (verdict_bytes n (accepted_run o).verdicts) buf) i 0 ≡ verdict_byte (get_or o.verdicts i d)
byte_at o n i buf d h l m =
    let vs = (accepted_run o).verdicts in
    let z : length (take n vs) ≡ n = length-take-le n vs (omega (arith, held-length o (omega arith))) in
    let w : length (verdict_bytes n vs) ≡ n = length-map (take n vs) verdict_byte ∙ z in
    get_or-append (verdict_bytes n vs) (drop (length (verdict_bytes n vs)) buf) 0 i (omega arith)
    ∙ get_d_map verdict_byte (take n vs) i d 0 (omega arith)
    ∙ ap verdict_byte (get_or-take n vs i d l ∙ verdict-held o i (omega arith) d)

-- a file, whose trial is run over the rows of its table or any in their place
module _ (rows : Trial → List (List Float)) (bytes buf : List ℕ) (ok : first_refusal (trial_verdicts_checks bytes (length buf)) ≡ 0) where
  abbrev read : Trial
  read = trial_of (words_of bytes)

  abbrev run : Outcome
  run = full_run (rows read) (trial_start read)

  file-passes : first_refusal (file_checks bytes) ≡ 0
  file-passes = (both-pass (file_checks bytes) (too_short (length buf) (file_offers bytes)) ok).0

  few : file_offers bytes ≤ 32
  unfolding file_refusal
  few = omega (arith, (accepted read (read-accepted bytes file-passes)).offers-most)

  pub byte-told : (i : ℕ) → i < file_offers bytes → (d : Verdict)
      → get_or (verdicts_buffer (trial_verdicts_checks bytes (length buf)) (file_offers bytes) (accepted_run run).verdicts buf) i 0
      ≡ verdict_byte (get_or run.verdicts i d)
  byte-told i l d =
      ap (λ (out : List ℕ). get_or out i 0) ((answered (trial_verdicts_checks bytes (length buf)) (written (verdict_bytes (file_offers bytes) (accepted_run run).verdicts) buf) (λ _. buf)).gives ok)
      ∙ byte_at run (file_offers bytes) i buf d (verdicts-length (rows read) (trial_start read)) l few
