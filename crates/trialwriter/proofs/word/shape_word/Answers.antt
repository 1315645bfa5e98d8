-- `trialwriter::word::shape_word` meets its contract: by how the trial was laid out.
use mathlib.Core.Path.{◌∙◌}
use Rattle.words.proofs.Shapes.{pairs_made, shops-made}
use Rattle.trialwriter.proofs.word.shape_word.Goals as goal

pub paired_word-requires : goal.paired_word-requires
paired_word-requires c = let p = c.requires in (p.0, p.1, (pairs_made _ _ c.in-Paired.is p.2).0)

pub unpaired_word-requires : goal.unpaired_word-requires
unpaired_word-requires c = let p = c.requires in let m = shops-made _ _ _ c.in-Unpaired.is p.2 in (p.0, p.1, m.0, m.1)

pub returns-in-Paired : goal.returns-in-Paired
returns-in-Paired c = c.paired_word.ensures ∙ (pairs_made _ _ c.in-Paired.is c.requires.2).1 _ _

pub returns-in-Unpaired : goal.returns-in-Unpaired
returns-in-Unpaired c = c.unpaired_word.ensures ∙ (shops-made _ _ _ c.in-Unpaired.is c.requires.2).2 _ _
