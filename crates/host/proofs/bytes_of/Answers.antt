-- `bytes_of`: the byte of each verdict.
use native.Mathlib.Omega.{arith}
use borrow.Author.Rules.{rules}
use Rattle.verdicts.specs.Verdicts.{verdict_byte}
use Rattle.host.proofs.Mapped.{served, mapped}
use Rattle.host.proofs.VerdictBytes.{byte_small}
use Rattle.host.proofs.bytes_of.Goals as goal

pub map-requires : goal.map-requires
map-requires c = (omega arith, (omega arith, (omega arith, served _ _ _ _ (λ i d q h. byte_small c.args.verdicts i d c.requires h))))

pub returns : goal.returns
returns c = mapped _ verdict_byte (λ p x y q k. search rules) _ _ _ 32 (search rules) c.map.ensures.items
