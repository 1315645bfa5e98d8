-- `becardlarder_table_balanced`: the balanced table is made, or 100 is added to the number of the refusal.
use Prim.Native.Nat.{ℕ, ◌+◌}
use mathlib.Core.Path.{ap, ◌∙◌}
use Rattle.host.proofs.BalancedTables.{balanced-refused, balanced-done}
use Rattle.host.proofs.balanced.becardlarder_table_balanced.Goals as goal

pub returns-in-Ok : goal.returns-in-Ok
returns-in-Ok c = let e = c.in-Ok.ensures in record { value = balanced-done _ _ _ _ c.in-Ok.field-0 e.value; out_after = e.out_after }

pub returns-in-Err : goal.returns-in-Err
returns-in-Err c =
    let e = c.in-Err.ensures in
    record { value = ap (λ (n : ℕ). 100 + n) c.from.ensures ∙ balanced-refused _ _ _ _ c.in-Err.refusal e.value; out_after = e.out_after }
