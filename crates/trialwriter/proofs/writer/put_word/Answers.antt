-- `put_word`: four bytes.
use Prim.Native.Nat.{◌*◌}
use native.Mathlib.Omega.{arith}
use Rattle.std.proofs.lemmas.Grind.{common_steps}
use Rattle.trialwriter.proofs.Stored.{word_stored}
use Rattle.trialwriter.proofs.writer.put_word.Goals as goal

pub returns : goal.returns
returns c = word_stored c.args.out.now _ (4 * c.args.i) c.args.w c.requires.1 (grind (arith, common_steps))
