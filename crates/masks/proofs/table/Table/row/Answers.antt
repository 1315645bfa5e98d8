-- `row` meets its contract.
use Rattle.masks.proofs.Parts.{part-row}
use lib.ListN.{take, drop}
use Prim.Native.Nat.{ℕ, ◌+◌, ◌-◌, ◌*◌}
use mathlib.Core.Path.{◌≡◌, ap, ◌∙◌}
use native.Mathlib.Nat.{suc-mul}
use native.Mathlib.Numerals.{add-one}
use Rattle.masks.proofs.table.Table.row.Goals as goal

pub returns : goal.returns
returns c =
    let t = c.args.self in
    let g = c.args.g in
    let e : (g + 1) * t.columns ≡ g * t.columns + t.columns = rw add-one (suc-mul g t.columns) in
    ap (λ (n : ℕ). take (n - g * t.columns) (drop (g * t.columns) t.values.now)) e ∙ part-row _ _ _ _ g t.checked c.requires
