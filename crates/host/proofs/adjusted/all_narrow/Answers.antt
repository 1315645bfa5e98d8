-- `all_narrow`: each figure.
use Prim.Native.Nat.{ℕ}
use native.Mathlib.Omega.{arith}
use mathlib.Core.Path.{◌∙◌}
use mathlib.Core.List.{map-id}
use borrow.Author.Rules.{rules}
use Rattle.std.proofs.lemmas.Grind.{get_or_default_zero}
use Rattle.host.proofs.Mapped.{served, mapped}
use Rattle.host.proofs.adjusted.all_narrow.Goals as goal

pub map-requires : goal.map-requires
map-requires c = (omega arith, (omega arith, (omega arith, served _ _ _ _ (λ i d q h. omega (arith, get_or_default_zero c.args.figures i d h, c.requires i)))))

pub returns : goal.returns
returns c = mapped _ (λ (x : ℕ). x) (λ p x y q k. search rules) _ _ _ 32 (search rules) c.map.ensures.items ∙ map-id c.args.figures
