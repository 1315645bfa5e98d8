-- `logged_in`: each field of each record.
use borrow.Author.Rules.{rules}
use Rattle.runs.specs.declared.Record.{Record}
use Rattle.benchcalls.proofs.Mapped.{mapped}
use Rattle.benchcalls.proofs.logged_in.Goals as goal

pub returns : goal.returns
returns c =
    let criticals = mapped _ (λ (m : Record). m.critical) (λ p x y q k. search rules) _ c.args.records _ 32 (search rules) c.map.ensures.items in
    let rows = mapped _ (λ (m : Record). m.row) (λ p x y q k. search rules) _ c.args.records _ 32 (search rules) c.map-2.ensures.items in
    let offers = mapped _ (λ (m : Record). m.offer) (λ p x y q k. search rules) _ c.args.records _ 32 (search rules) c.map-3.ensures.items in
    λ j. record { criticals = criticals j; rows = rows j; offers = offers j }
