-- `unrejected` meets its contract.
use Rattle.std.proofs.Common.{rules, ◌≡◌, ◌-◌, ◌++◌, List, ℕ, replicate, ap, ap₂, ◌∙◌, sym}
use Rattle.std.proofs.lemmas.List.{drop-replicate, length-replicate}
use Rattle.figuring.proofs.pass.unrejected.Goals as goal

pub returns : goal.returns
returns c =
    let a = c.args in
    let e : c.fill.new.self ≡ replicate a.columns a.rows = search rules in
    ap₂ (λ (x y : List ℕ). x ++ y) e (drop-replicate a.columns 32 0 ∙ ap (λ (n : ℕ). replicate (32 - n) 0) (sym (length-replicate a.columns a.rows)))
