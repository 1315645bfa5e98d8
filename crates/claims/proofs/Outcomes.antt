-- Every call of the library that can be refused answers `outcome checks accepted`, a Result (refusals/specs/Answers.antt).
--   Concluded, concluded     what is promised of every such call, whatever its conditions
use Prim.Native.Nat.{ℕ, ◌<◌}
use mathlib.Core.Path.{◌≡◌, sym, subst}
use mathlib.Core.Bool.{false}
use mathlib.Core.Logic.{◌↔◌}
use Rattle.std.proofs.Common.{Ok}
use Rattle.refusals.specs.Answers.{Checks, outcome, refusal_in, condition, First}
use Rattle.refusals.proofs.Answers.{answered, outcome_number, passed-ok}

pub record Concluded {A : Type 0} (cs : Checks) (done : A) : Type 0 where
  -- it is an `Err` whose number is n exactly where a condition with that number is the first to hold, and an `Ok` exactly where none holds
  pub numbered : (n : ℕ) → 0 < n → (refusal_in (outcome cs done) ≡ n) ↔ First cs n
  pub unnumbered : (refusal_in (outcome cs done) ≡ 0) ↔ ((i : ℕ) → condition cs i ≡ false)
  -- and then of what is accepted
  pub gives : ((i : ℕ) → condition cs i ≡ false) → outcome cs done ≡ Ok done

pub concluded : {A : Type 0} (cs : Checks) (done : A) → Concluded cs done
concluded cs done =
    let a = answered cs done (λ n. done) in
    let e = sym (outcome_number cs done) in
    record {
      numbered = subst (λ m. (n : ℕ) → 0 < n → (m ≡ n) ↔ First cs n) e a.numbered;
      unnumbered = subst (λ m. (m ≡ 0) ↔ ((i : ℕ) → condition cs i ≡ false)) e a.unnumbered;
      gives = λ f. passed-ok cs done (a.unnumbered.1 f);
    }
