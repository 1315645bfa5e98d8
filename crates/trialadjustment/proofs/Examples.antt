-- The trial W of document 01 has the figures of its table, which stand in crate adjustment's examples. And trials with offers that are set aside.
--   w-with-figures     W at every level, for k 1
--   w-figures          as printed
--   aside-figures      W with a third offer of zeros: W's figures, and M for that offer
--   cancelled-figures, zeros-figures     fewer than k offers remain, and none: every figure is M
--   shops-figures      trials of shops without partners
use Prim.Native.Nat.{ℕ}
use mathlib.Core.Path.{◌≡◌, refl, ap}
use mathlib.Core.List.{List, [], ◌∷◌}
use lib.ListN.{get_or}
use lib.Ieee.{lt, le}
use Rattle.runs.specs.Examples.{W}
use Rattle.adjustment.specs.Adjusted.{table_figures}
use Rattle.adjustment.specs.Examples.{examples}
use Rattle.adjustment.proofs.Examples.{all-examples}
use Rattle.trial.specs.Aside.{live_mask}
use Rattle.trial.specs.Exchange.{row_total}
use Rattle.trial.specs.Examples.{trial_with, trial_w, trial_aside, trial_cancelled, trial_zeros, trial_shops, two_shops}
use Rattle.trialadjustment.specs.TrialFigures.{trial_figures}

table-w : table_figures W 8 2 1 0 ≡ 1 ∷ 3 ∷ []
unfolding examples
table-w = ap (λ (l : List (List ℕ)). get_or l 0 []) all-examples

pub w-with-figures : (a b : ℕ) → trial_figures (trial_with a b 1) ≡ 1 ∷ 3 ∷ []
unfolding trial_figures table_figures row_total live_mask
w-with-figures a b = table-w

pub w-figures : trial_figures trial_w ≡ 1 ∷ 3 ∷ []
unfolding trial_w
w-figures = w-with-figures 1 4

pub aside-figures : trial_figures trial_aside ≡ 1 ∷ 3 ∷ 8 ∷ []
unfolding trial_figures trial_aside lt le
aside-figures = refl

pub cancelled-figures : trial_figures trial_cancelled ≡ 4 ∷ 4 ∷ []
unfolding trial_figures trial_cancelled lt le
cancelled-figures = refl

pub zeros-figures : trial_figures trial_zeros ≡ 2 ∷ 2 ∷ []
unfolding trial_figures trial_zeros lt le
zeros-figures = refl

-- shops without partners (document 02, §6)
pub shops-figures : (trial_figures trial_shops ≡ 1 ∷ 5 ∷ []) × (trial_figures two_shops ≡ 1 ∷ 2 ∷ [])
unfolding trial_figures trial_shops two_shops lt le
shops-figures = (refl, refl)
