-- `trialfile::reader::read_labels` meets its contract. The loop's invariant: the arrays hold the labels of the first i offers, and zero beyond.
use mathlib.Core.Path.{◌≡◌}
use Rattle.limits.specs.Limits.{offers_most}
use Rattle.words.specs.Words.{words_of}
use Rattle.trialfile.specs.Files.{code_in, digits_in}
use Rattle.trialfile.proofs.Arrays.{filling}
use Rattle.trialfile.proofs.reader.read_labels.Given as goal

abbrev pub invariant-loop-i : goal.invariant-loop-i
invariant-loop-i l = (l.codes ≡ filling (code_in (words_of l.file) l.l) offers_most 0 l.i) × (l.digits ≡ filling (digits_in (words_of l.file) l.l) offers_most 0 l.i)
