-- The round trip of trial files.
--   write_read          an accepted trial, written and read back, is the same trial with its unused places zero
--   read-write          an accepted file, read and written, is the same bytes
use Prim.Native.Nat.{ℕ, ◌%◌}
use mathlib.Core.Path.{◌≡◌, ap, ◌∙◌}
use mathlib.Core.List.{List}
use lib.ListN.{length}
use lib.Dec.{eqb}
use borrow.Author.Tests.{eqb-true, not-false}
use Rattle.std.proofs.Common.{Ok}
use Rattle.trial.specs.Record.{ArrayLengths, trimmed}
use Rattle.trial.specs.Refusals.{trial_refusal}
use Rattle.trial.specs.declared.Trial.{Trial}
use Rattle.words.specs.Words.{Bytes, words_of, bytes_of}
use Rattle.trialfile.specs.Files.{trial_of, file_refusal, reading_of}
use Rattle.trialwriter.specs.Writings.{file_words, file_of}
use Rattle.words.proofs.Words.{words-bytes, bytes-words}
use Rattle.trialwriter.proofs.Written.{words-hold, file-accepted}
use Rattle.trialwriter.proofs.Again.{words-again}
use Rattle.trialfile.proofs.Passed.{file-passed, lengths}
use Rattle.trialfile.proofs.Taken.{read_taken}

pub write_read : (t : Trial) → ArrayLengths t → trial_refusal t ≡ 0 → reading_of (file_of t) ≡ Ok (trimmed t)
unfolding file_of
write_read t ty h = read_taken (file_of t) (file-accepted t ty h) ∙ ap Ok (ap trial_of (words-bytes (file_words t)) ∙ words-hold t ty h)

module _ (bytes : List ℕ) (h : file_refusal bytes ≡ 0) where
  pub read-write : Bytes bytes → file_of (trial_of (words_of bytes)) ≡ bytes
  unfolding file_of
  read-write b = ap bytes_of (words-again (words_of bytes) (file-passed bytes h).words-good) ∙ bytes-words bytes b (eqb-true (length bytes % 4) 0 (not-false (eqb (length bytes % 4) 0) (lengths bytes h).0))
