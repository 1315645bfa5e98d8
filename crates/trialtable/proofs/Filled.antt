-- What the code fills is the table of the trial.
--   table_of-is                      the table of a trial is the one that the code fills
--   figures-ranged                   the figures of an accepted trial are in range
use Prim.Native.Nat.{◌*◌, ◌≤◌}
use native.Mathlib.Omega.{arith}
use mathlib.Core.Path.{◌≡◌, ap, subst}
use mathlib.Core.List.{List, map}
use lib.ListN.{length}
use lib.Seq.{length-take-le, get_or-take}
use lib.IntN.{ℤ, pos, nat_abs}
use lib.Ieee.{binary64, of_int}
use Rattle.limits.specs.Limits.{difference_most}
use Rattle.order.specs.Lists.{tabulate, joined}
use Rattle.trial.specs.Designs.{units_of, row_count, entry_of}
use Rattle.trial.specs.Record.{figure_count, figures_of}
use Rattle.trial.specs.Exchange.{row_total, row_of, trial_rows, table_of}
use Rattle.trial.specs.Internal.{Ranged}
use Rattle.trial.specs.declared.Trial.{Trial}
use Rattle.trial.proofs.Sums.{all-in-range}
use Rattle.trial.proofs.Accepted.{Accepted}
use Rattle.trial.proofs.Tables.{by_offer-figures}
use Rattle.trialtable.specs.Internal.{table_for}

pub table_of-is : (t : Trial) → table_of t ≡ table_for t.shape.design t.shape.offers t.figures
unfolding table_of trial_rows row_total row_of table_for
table_of-is t = let d = t.shape.design in ap (λ (os : List (List ℤ)). joined (tabulate (row_count d) (λ g. map (λ x. of_int binary64 (entry_of d g x)) os))) (by_offer-figures t)

pub figures-ranged : (t : Trial) → Accepted t → t.shape.offers * units_of t.shape.design ≤ length t.figures → Ranged (t.shape.offers * units_of t.shape.design) t.figures
unfolding figure_count
figures-ranged t acc h i k =
    let n = t.shape.offers * units_of t.shape.design in
    let l = length-take-le n t.figures h in
    subst (λ (z : ℤ). nat_abs z ≤ difference_most) (get_or-take n t.figures i (pos 0) k) (all-in-range (figures_of t) acc.in-range i (omega arith))
