-- What comes of an answer: its number, and its parts, each handed out into a lent place.
--   handed_zero, handed_out        where it is accepted: 0, and a place that holds a part of it is as it has to be
--   handed-number, handed-nothing  where it is refused: the number, and so is a place that is left alone
use Prim.Native.Nat.{ℕ}
use mathlib.Core.Path.{◌≡◌, sym, ap, ◌∙◌}
use Rattle.std.proofs.Common.{Ok, Err}
use Rattle.refusals.specs.Answers.{Checks, number, outcome, first_refusal, afterwards}
use Rattle.refusals.specs.declared.refusal.Refusal.{Refusal}
use Rattle.refusals.proofs.Answers.{none_first, outcome-ok, ok-none, outcome-first, ok_answer, err_answer}

module _ {X : Type 0} (cs : Checks) (done : X) where
  module _ (y : X) (e : Ok y ≡ outcome cs done) where
    pub handed_zero : 0 ≡ first_refusal cs
    handed_zero = sym (none_first cs (ok-none cs done y (sym e)))

    pub handed_out : {A : Type 0} (part : X → A) (old : A) → part y ≡ afterwards cs (part done) old
    handed_out part old =
        let k = outcome-ok cs done (ok-none cs done y (sym e)) in
        let q : y ≡ done = cc in
        ap part q ∙ sym (ok_answer cs done y (part done) (λ _. old) (sym e))

  module _ (r : Refusal) (e : Err r ≡ outcome cs done) where
    pub handed-number : (n : ℕ) → n ≡ number r → n ≡ first_refusal cs
    handed-number n q = q ∙ sym (outcome-first cs done r (sym e))

    pub handed-nothing : {A : Type 0} (part : X → A) (old : A) → old ≡ afterwards cs (part done) old
    handed-nothing part old = sym (err_answer cs done r (part done) (λ _. old) (sym e))
