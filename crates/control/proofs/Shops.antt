-- Demand 3 in the words of document 02, §6: over all C choices named as treated, idle figures staying with their shops, at most floor(C × a/b) runs reject k or more
-- idle offers.
--   shops-answered, shops-balanced-answered  the theorem, plain and balanced; its hypothesis `named`: run g lists the shops of choice g first
use Prim.Native.Nat.{ℕ, ◌*◌, ◌≤◌, ◌<◌}
use native.Mathlib.Omega.{arith}
use mathlib.Core.Path.{◌≡◌, sym, ap, ◌∙◌, subst}
use mathlib.Core.Bool.{Bool}
use lib.ListN.{length}
use lib.Dec.{T}
use Rattle.refusals.specs.Limits.{allowance}
use Rattle.refusals.specs.Answers.{value_or}
use Rattle.runs.specs.FullRuns.{blank_run, verdicts_in}
use Rattle.trial.specs.Choices.{choices, choice_at, chosen_first}
use Rattle.trial.specs.Designs.{row_count, listed}
use Rattle.trial.specs.Exchange.{row_total, figures_at}
use Rattle.trial.specs.Record.{ArrayLengths, Keeps}
use Rattle.trial.specs.Refusals.{trial_refusal}
use Rattle.trial.specs.declared.Design.{Design}
use Rattle.trial.specs.declared.Design.TheVariants.{Unpaired}
use Rattle.trial.specs.declared.Trial.{Trial}
use Rattle.trialrun.specs.TrialRuns.{trial_answer}
use Rattle.trialbalance.specs.TrialBalance.{trial_balanced_answer}
use Rattle.control.specs.Statements.{runs_that_reject, ListedOn}
use Rattle.control.proofs.Answered.{trials-answered, balanced-trials-answered}

module _ (t : Trial) (shops treated : ℕ) (laid : t.shape.design ≡ Unpaired shops treated) where
  rows-chosen : row_total t ≡ length (choices shops treated)
  unfolding row_total row_count
  rows-chosen = ap row_count laid

  module _ (idle : ℕ → Bool) (runs : ℕ → Trial) (ty : ArrayLengths t) (ok : trial_refusal t ≡ 0)
      (oks : (g : ℕ) → g < length (choices shops treated) → trial_refusal (runs g) ≡ 0)
      (keeps : (g : ℕ) → g < length (choices shops treated) → Keeps t (runs g))
      (named : (g : ℕ) → g < length (choices shops treated) → (i : ℕ) → i < t.shape.offers → T (idle i) → figures_at (runs g) i ≡ chosen_first (choice_at shops treated g) (figures_at t i))
      (places work : ℕ) (h : length (choices shops treated) * t.shape.offers ≤ places) (l : length (choices shops treated) ≤ work) where
    below : (g : ℕ) → g < row_total t → g < length (choices shops treated)
    below g m = omega (arith, rows-chosen)

    listing : (g : ℕ) → g < row_total t → ListedOn idle g t (runs g)
    unfolding listed
    listing g m i k q = named g (below g m) i k q ∙ ap (λ (d : Design). listed d g (figures_at t i)) (sym laid)

    room : row_total t * t.shape.offers ≤ places
    room = rw rows-chosen h

    pub shops-answered : runs_that_reject t.shape.k (length (choices shops treated)) idle (λ g. verdicts_in t.shape.offers (value_or blank_run (trial_answer (runs g) places work)))
        ≤ allowance (length (choices shops treated)) t.level.a t.level.b
    shops-answered = subst (λ (n : ℕ). runs_that_reject t.shape.k n idle (λ g. verdicts_in t.shape.offers (value_or blank_run (trial_answer (runs g) places work))) ≤ allowance n t.level.a t.level.b) rows-chosen
        (trials-answered t idle runs ty ok (λ g m. oks g (below g m)) (λ g m. keeps g (below g m)) listing places work room (omega (arith, rows-chosen)))

    pub shops-balanced-answered : runs_that_reject t.shape.k (length (choices shops treated)) idle (λ g. verdicts_in t.shape.offers (value_or blank_run (trial_balanced_answer (runs g) places work)))
        ≤ allowance (length (choices shops treated)) t.level.a t.level.b
    shops-balanced-answered = subst (λ (n : ℕ). runs_that_reject t.shape.k n idle (λ g. verdicts_in t.shape.offers (value_or blank_run (trial_balanced_answer (runs g) places work))) ≤ allowance n t.level.a t.level.b) rows-chosen
        (balanced-trials-answered t idle runs ty ok (λ g m. oks g (below g m)) (λ g m. keeps g (below g m)) listing places work room (omega (arith, rows-chosen)))
