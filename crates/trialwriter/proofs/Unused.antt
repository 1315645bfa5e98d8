-- Places that the counts of a record don't use change nothing: two records of the same trial have the same
--   file-same            file
--   writing-same         answer of the writer
--   written_same         buffer after it
use Prim.Native.Nat.{ℕ, ◌*◌}
use mathlib.Core.Path.{◌≡◌, ap, ap₂}
use mathlib.Core.List.{List, ◌++◌}
use lib.ListN.{length}
use Rattle.refusals.specs.Answers.{Checks, outcome, afterwards}
use Rattle.refusals.specs.Buffers.{too_short, written}
use Rattle.trial.specs.Record.{Contents, Same}
use Rattle.trial.specs.declared.Trial.{Trial}
use Rattle.trial.proofs.Unused.{checks-same}
use Rattle.words.specs.Words.{bytes_of}
use Rattle.layouts.specs.Layouts.{word_total}
use Rattle.trialwriter.specs.Writings.{content_words, file_words, file_of, file_length, write_checks, writing_of, after_writing}

module _ (t u : Trial) (s : Same t u) where
  pub file-same : file_of t ≡ file_of u
  unfolding file_of file_words
  file-same = ap (λ (c : Contents). bytes_of (content_words c)) s

  length-same : file_length t ≡ file_length u
  length-same = ap (λ (c : Contents). 4 * word_total c.setting.shape) s

  checked-same : (places : ℕ) → write_checks t places ≡ write_checks u places
  unfolding write_checks
  checked-same places = ap₂ (λ (cs : Checks) (n : ℕ). cs ++ too_short places n) (checks-same t u s) length-same

  pub writing-same : (places : ℕ) → writing_of t places ≡ writing_of u places
  unfolding writing_of
  writing-same places = ap₂ (λ (cs : Checks) (l : ℕ). outcome cs l) (checked-same places) length-same

  pub written_same : (buf : List ℕ) → after_writing t buf ≡ after_writing u buf
  unfolding after_writing
  written_same buf = ap₂ (λ (cs : Checks) (xs : List ℕ). afterwards cs (written xs buf) buf) (checked-same (length buf)) file-same
