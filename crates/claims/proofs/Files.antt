-- Files through the calls: what the writer leaves is read back, and what is read is written again.
--   file-written       an accepted trial in a buffer that is long enough
--   write-back, read_back      the two round trips, through the lent buffer
use Prim.Native.Nat.{ℕ, ◌≤◌}
use native.Mathlib.Omega.{arith}
use mathlib.Core.Path.{◌≡◌, refl, sym, ap, ◌∙◌, subst}
use mathlib.Core.List.{List}
use lib.ListN.{length, take, drop}
use lib.Seq.{take_at}
use Rattle.refusals.specs.Answers.{first_refusal, value_or}
use Rattle.refusals.specs.declared.refusal.Refusal.{Refusal}
use Rattle.refusals.specs.Buffers.{written}
use Rattle.trial.specs.Record.{ArrayLengths, trimmed, blank}
use Rattle.trial.specs.Refusals.{trial_checks, trial_refusal}
use Rattle.trial.specs.declared.Trial.{Trial}
use Rattle.words.specs.Words.{Bytes, words_of}
use Rattle.trialfile.specs.Files.{trial_of, file_refusal, reading_of}
use Rattle.std.proofs.Common.{Result, Ok}
use Rattle.trialwriter.specs.Writings.{file_of, file_length, write_checks, writing_of, after_writing}
use Rattle.refusals.proofs.Answers.{passed-ok, ok_answer}
use Rattle.refusals.proofs.Buffers.{lent-passes}
use Rattle.trialwriter.proofs.Written.{file_length-is}
use Rattle.trialfile.proofs.Taken.{read_taken, read-accepted, read-lengths}
use Rattle.trialwriter.proofs.RoundTrip.{write_read, read-write}

module _ (t : Trial) (ty : ArrayLengths t) (h : trial_refusal t ≡ 0) where
  module _ (buf : List ℕ) (room : file_length t ≤ length buf) where
    passes : first_refusal (write_checks t (length buf)) ≡ 0
    unfolding write_checks trial_refusal
    passes = lent-passes (trial_checks t) (length buf) (file_length t) h room

    pub file-written : (Ok (file_length t) ≡ writing_of t (length buf)) × (written (file_of t) buf ≡ after_writing t buf)
    unfolding writing_of after_writing
    file-written = let e = passed-ok (write_checks t (length buf)) (file_length t) passes in (sym e, sym (ok_answer (write_checks t (length buf)) (file_length t) (file_length t) (written (file_of t) buf) (λ _. buf) e))

    pub file-left : take (file_length t) (after_writing t buf) ≡ file_of t
    file-left =
        ap (take (file_length t)) (sym file-written.1)
        ∙ take_at (file_of t) (drop (length (file_of t)) buf) (file_length t) (file_length-is t ty h)

    pub write-back : reading_of (take (value_or 0 (writing_of t (length buf))) (after_writing t buf)) ≡ Ok (trimmed t)
    write-back =
        ap (λ (w : Result ℕ Refusal). reading_of (take (value_or 0 w) (after_writing t buf))) (sym file-written.0)
        ∙ ap reading_of file-left ∙ write_read t ty h

module _ (bytes : List ℕ) (b : Bytes bytes) (h : file_refusal bytes ≡ 0) where
  file-again : file_of (trial_of (words_of bytes)) ≡ bytes
  file-again = read-write bytes h b

  length-again : file_length (trial_of (words_of bytes)) ≡ length bytes
  length-again = sym (file_length-is (trial_of (words_of bytes)) (read-lengths bytes h) (read-accepted bytes h)) ∙ ap length file-again

  module _ (buf : List ℕ) (room : length bytes ≤ length buf) where
    written-again : (writing_of (trial_of (words_of bytes)) (length buf) ≡ Ok (length bytes)) × (take (length bytes) (after_writing (trial_of (words_of bytes)) buf) ≡ bytes)
    written-again =
        let r : file_length (trial_of (words_of bytes)) ≤ length buf = omega (arith, length-again) in
        let ty = read-lengths bytes h in
        let ok = read-accepted bytes h in (
          sym (file-written (trial_of (words_of bytes)) ty ok buf r).0 ∙ ap (λ (n : ℕ). Ok n) length-again,
          ap (λ (n : ℕ). take n (after_writing (trial_of (words_of bytes)) buf)) (sym length-again) ∙ file-left (trial_of (words_of bytes)) ty ok buf r ∙ file-again,
        )

    pub read_back : let t = value_or blank (reading_of bytes) in (writing_of t (length buf) ≡ Ok (length bytes)) × (take (length bytes) (after_writing t buf) ≡ bytes)
    read_back =
        subst (λ (t : Trial). (writing_of t (length buf) ≡ Ok (length bytes)) × (take (length bytes) (after_writing t buf) ≡ bytes))
        (sym (ap (value_or blank) (read_taken bytes h))) written-again
