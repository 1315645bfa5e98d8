-- `words::word_at` meets its contract: 0 where the word is not there.
use mathlib.Core.Path.{sym}
use native.Mathlib.Omega.{arith}
use Rattle.words.proofs.Words.{words_of-none}
use Rattle.words.proofs.word_at.Goals as goal

pub returns-then-file-i : goal.returns-then-file-i
returns-then-file-i c = let a = c.args in sym (words_of-none a.file.now a.i (omega (arith, c.if-file-i.true)))
