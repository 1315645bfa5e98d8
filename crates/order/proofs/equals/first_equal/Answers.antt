-- `first_equal` meets its contract: what is left beyond the blocks, by the library's law of `position`.
use borrow.Author.Rules.{rules}
use borrow.Author.Tests.{tests}
use native.Mathlib.Omega.{arith}
use mathlib.Core.Path.{ap, ◌∙◌}
use Prim.Native.Nat.{◌-◌}
use lib.ListN.{length, take, drop, length-drop}
use lib.Seq.{take_all}
use Rattle.std.specs.Option.{unwrap_or}
use Rattle.std.proofs.lemmas.Iterator.{YieldsList-from_slice}
use Rattle.std.proofs.lemmas.Iterator.Search.{position_from_yields_List}
use Rattle.order.specs.Order.{equal}
use Rattle.order.specs.Lists.{first_at}
use Rattle.order.proofs.Library.{first-position}
use Rattle.order.proofs.equals.first_equal.Goals as goal

pub returns : goal.returns
returns c =
    let xs = c.args.xs.now in
    let from = c.blocks_passed-from.result in
    let rest = take (length xs - from) (drop from xs) in
    let found = position_from_yields_List (λ x. equal c.args.v x) _ _ _ c.position.ensures.ran (YieldsList-from_slice rest cc) (λ x b q k. search (rules, tests)) in
    let first = c.unwrap_or.ensures ∙ ap (λ r. unwrap_or r (length rest)) found ∙ first-position (λ x. equal c.args.v x) rest in
    let whole = ap (first_at (λ x. equal c.args.v x)) (take_all (length xs - from) (drop from xs) (simp length-drop (omega arith))) in
    omega (arith, first, whole, c.blocks_passed-from.ensures.1)
