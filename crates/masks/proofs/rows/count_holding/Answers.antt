-- `count_holding` meets its contract: a sum of ones is a count.
use Rattle.std.proofs.Common.{rules, ◌≡◌, ℕ, ◌+◌, Bool, List, [], ◌∷◌, fold, arith}
use Rattle.std.specs.List.{sum_by}
use Rattle.order.specs.Counting.{bit, count}
use Rattle.masks.specs.Marks.{holds, holding}
use Rattle.masks.proofs.rows.count_holding.Goals as goal

counted : {A : Type 0} (p : A → Bool) (xs : List A) (a : ℕ) → fold (λ n x. n + bit (p x)) a xs ≡ a + count p xs
unfolding count
counted p [] a = omega arith
counted p (x ∷ xs) a = omega (arith, counted p xs (a + bit (p x)))

pub returns : goal.returns
unfolding holding
returns c =
    let a = c.args in
    let e : c.sum-n.result ≡ sum_by (λ m. bit (holds a.k a.set m)) a.marks.now = search rules in
    omega (arith, e, counted (holds a.k a.set) a.marks.now 0)
