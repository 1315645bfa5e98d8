-- Laws of the calls that take a trial.
--   turned-away, passed_on           any such call: the record is turned away, or else the later conditions decide
--   size_known                       what a size tells of its trial
--   total-most                       how many places a table needs at most
--   known                            what is known of the record past its checks
use Prim.Native.Nat.{ℕ, ◌*◌, ◌≤◌}
use native.Mathlib.Nat.{mul-le-mul}
use mathlib.Core.Path.{◌≡◌, sym, ◌∙◌}
use mathlib.Core.List.{◌++◌}
use Rattle.std.proofs.Common.{Ok}
use Rattle.refusals.specs.Answers.{Checks, answer}
use Rattle.refusals.proofs.Answers.{refused, answer-append, answer-map}
use Rattle.limits.specs.Limits.{trial_table_most}
use Rattle.trial.specs.Exchange.{row_total}
use Rattle.trial.specs.Refusals.{trial_checks, trial_refusal}
use Rattle.trial.specs.declared.Trial.{Trial}
use Rattle.trial.specs.Lent.{full_size, size_of}
use Rattle.trial.specs.declared.TableSize.{TableSize}
use Rattle.trial.proofs.Accepted.{Accepted, accepted, accepted_ok}
use Rattle.refusals.proofs.Answers as answers

-- ---- any call

module _ {A : Type 0} (done : A) (refusing : ℕ → A) where
  module _ (t : Trial) (later : Checks) (r : ℕ) (e : r ≡ trial_refusal t) where
    pub turned-away : (r ≡ 0 → ⊥) → refusing r ≡ answer (trial_checks t ++ later) done refusing
    unfolding trial_refusal
    turned-away h = refused (answer later done refusing) refusing (trial_checks t) r e h ∙ sym (answer-append (trial_checks t) later done refusing)

    pub passed_on : r ≡ 0 → answer later done refusing ≡ answer (trial_checks t ++ later) done refusing
    unfolding trial_refusal
    passed_on h = answers.accepted (answer later done refusing) refusing (trial_checks t) r e h ∙ sym (answer-append (trial_checks t) later done refusing)

pub known : (t : Trial) (r : ℕ) → r ≡ trial_refusal t → r ≡ 0 → Accepted t
known t r e h = accepted t (sym e ∙ h)

-- ---- the table

pub total-most : (t : Trial) → Accepted t → row_total t * t.shape.offers ≤ trial_table_most
unfolding row_total
total-most t acc = mul-le-mul acc.laid.rows-most acc.offers-most

-- ---- the size

pub size_known : (t : Trial) (s : TableSize) → size_of t ≡ Ok s → Accepted t × (s ≡ full_size t)
unfolding size_of
size_known t s h =
    let e : Ok s ≡ Ok (full_size t) = sym h ∙ answers.ok-for (trial_checks t) (full_size t) s (full_size t) h in
    (accepted_ok t (full_size t) h, cc)
