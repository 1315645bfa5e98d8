-- `tell`: the buffer is measured, the verdicts are written and the rejected counted.
use Prim.Native.Nat.{ℕ, ◌+◌}
use native.Mathlib.Omega.{arith}
use mathlib.Core.Path.{sym, ap, subst}
use lib.ListN.{length-take}
use borrow.Author.Rules.{rules}
use Rattle.host.specs.Internal.{Told}
use Rattle.host.proofs.VerdictBytes.{count_fits}
use Rattle.host.proofs.Lent.{part}
use Rattle.host.proofs.Files.{told-refused, told-short, told-done}
use Rattle.host.proofs.tell.Goals as goal

pub returns-then-verdicts-offers : goal.returns-then-verdicts-offers
returns-then-verdicts-offers c = subst (λ (n : ℕ). Told c.args.answer c.args.verdicts.now n c.args.verdicts.now) (sym (ap (λ (n : ℕ). 100 + n) c.from.ensures)) (told-short c.args.answer c.args.verdicts.now _ c.in-Ok.is c.if-verdicts-offers.true)

pub bytes_of-requires : goal.bytes_of-requires
bytes_of-requires c = c.requires.small _ c.in-Ok.is

pub slice_bounds-put-end : goal.slice_bounds-put-end
slice_bounds-put-end c = (part _ c.bytes_of.result (c.requires.few _ c.in-Ok.is) (search rules)).0

pub slice_bounds-put-end-in-Ok : goal.slice_bounds-put-end-in-Ok
slice_bounds-put-end-in-Ok c = (part _ c.bytes_of.result (c.requires.few _ c.in-Ok.is) (search rules)).1

pub put-requires : goal.put-requires
put-requires c = simp length-take (omega (arith, c.if-verdicts-offers.false))

pub overflow_cast-result : goal.overflow_cast-result
overflow_cast-result c = record { fits = count_fits _ _ _ c.rejected_count.ensures (omega (arith, c.requires.few _ c.in-Ok.is)) }

pub returns-else-verdicts-offers : goal.returns-else-verdicts-offers
returns-else-verdicts-offers c = told-done c.args.answer c.args.verdicts.now _ c.in-Ok.is c.if-verdicts-offers.false _ c.rejected_count.ensures _ c.bytes_of.ensures _ c.put.ensures

pub returns-in-Err : goal.returns-in-Err
returns-in-Err c = subst (λ (n : ℕ). Told c.args.answer c.args.verdicts.now n c.args.verdicts.now) (sym (ap (λ (n : ℕ). 100 + n) c.from-in-Err.ensures)) (told-refused c.args.answer c.args.verdicts.now c.in-Err.refusal c.in-Err.is)
