-- Laws of the count of rejected verdicts.
--   count-few               it is no more than the verdicts that are looked at
--   count-answered          of a run that is answered, it is that of the verdicts that the run tells
use Prim.Native.Nat.{ℕ, ◌+◌, ◌-◌, ◌≤◌}
use native.Mathlib.Omega.{arith}
use mathlib.Core.Path.{◌≡◌, refl, sym, ap, ◌∙◌}
use mathlib.Core.Bool.{Bool, true, false, cond}
use mathlib.Core.List.{List}
use lib.ListN.{length, take, replicate, length-take}
use lib.Seq.{take_at}
use Rattle.std.specs.List.{count_by}
use Rattle.std.proofs.lemmas.List.Recursion.{is_count_by}
use Rattle.order.specs.Counting.{bit, count}
use Rattle.order.specs.Order.{plus_zero}
use Rattle.std.proofs.lemmas.List.Sums.{count_by-le-length}
use Rattle.runs.specs.Stepdown.{Outcome}
use Rattle.runs.specs.FullRuns.{accepted_run, is_rejected}
use Rattle.runs.specs.declared.Verdict.{Verdict}
use Rattle.runs.specs.declared.Verdict.TheVariants.{Kept}
use Rattle.verdicts.specs.Verdicts.{rejected_count}

count_by_is : {A : Type 0} (p : A → Bool) (xs : List A) → count_by p xs ≡ count p xs
unfolding count
count_by_is p xs = sym (is_count_by (count p) p refl (λ x ys. go (p x) (count p ys)) xs)
  where
    go : (b : Bool) (n : ℕ) → bit b + n ≡ cond b (1 + n) n
    go true n = refl
    go false n = omega arith

pub count-few : (n : ℕ) (vs : List Verdict) → rejected_count n vs ≤ n
unfolding rejected_count
count-few n vs = omega (arith, count_by-le-length is_rejected (take n vs), length-take n vs)

pub count-answered : (n : ℕ) (o : Outcome) → length o.verdicts ≡ n → rejected_count n (accepted_run o).verdicts ≡ count is_rejected o.verdicts
unfolding rejected_count accepted_run
count-answered n o h = ap (count_by is_rejected) (take_at o.verdicts (replicate (32 - length o.verdicts) (Kept plus_zero)) n h) ∙ count_by_is is_rejected o.verdicts
