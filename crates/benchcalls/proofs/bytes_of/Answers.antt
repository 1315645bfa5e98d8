-- `bytes_of`: the number of each verdict.
use borrow.Author.Rules.{rules}
use Rattle.verdicts.specs.Verdicts.{verdict_byte}
use Rattle.benchcalls.proofs.Mapped.{mapped}
use Rattle.benchcalls.proofs.bytes_of.Goals as goal

pub returns : goal.returns
returns c = mapped _ verdict_byte (λ p x y q k. search rules) _ _ _ 32 (search rules) c.map.ensures.items
