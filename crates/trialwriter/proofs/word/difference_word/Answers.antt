-- `difference_word`: the kind, and the bits of the difference.
use Prim.Native.Nat.{◌+◌}
use mathlib.Core.Path.{ap, ap₂, ◌∙◌}
use mir.Facts.{to_z-of_z}
use Rattle.words.specs.Words.{bits_of}
use Rattle.trialwriter.proofs.word.difference_word.Goals as goal

pub returns : goal.returns
returns c = ap₂ ◌+◌ c.head.ensures (c.bits_of.ensures.0 ∙ ap bits_of (to_z-of_z c.ranges.d))
