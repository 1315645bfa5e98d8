-- The trial W of the samples: the sums of its rows, and that none of its settings is refused. Trials with offers that are set aside, and trials of
-- shops without partners.
--   w-sums                              the sums of W's rows
--   w-settings-accepted                 no setting of W is refused
--   live-examples, accepted-examples    which offers of W and of these trials take part, and that none of these trials is refused
--   shops-lists, shops-sums             the choices of 2 of 4 shops in their order, and the entries of a trial of them, as worked by hand
--   ten-shops, ten-entries              the largest trials: 5 and 9 of 10 shops treated
--   bounds-kept, bounds-left            the bounds of 15: what keeps them is refused for its level alone, and what leaves them by 15
use Prim.Native.Nat.{ℕ}
use mathlib.Core.Path.{◌≡◌, refl}
use mathlib.Core.List.{List, [], ◌∷◌, map}
use lib.ListN.{replicate}
use lib.IntN.{pos, negsuc}
use Rattle.order.specs.Lists.{tabulate}
use Rattle.trial.specs.Pairs.{signed_sum}
use Rattle.trial.specs.Choices.{choices, choice_at, shops_of}
use Rattle.trial.specs.Designs.{entry_of}
use Rattle.trial.specs.Exchange.{by_offer, row_total}
use Rattle.trial.specs.Aside.{live_mask}
use Rattle.trial.specs.Refusals.{trial_refusal}
use Rattle.trial.specs.declared.Design.TheVariants.{Unpaired}
use Rattle.trial.specs.declared.Trial.{Trial}
use Rattle.trial.specs.Examples.{trial_with, trial_w, sums_w, settings, trial_aside, trial_cancelled, trial_zeros, trial_shops, sums_shops, two_shops, ten_shops, laid_shops}

pub w-sums : tabulate (row_total trial_w) (λ g. map (signed_sum g) (by_offer trial_w)) ≡ sums_w
unfolding tabulate row_total signed_sum by_offer trial_w sums_w
w-sums = refl

-- none of the settings of the starred examples is refused
pub w-settings-accepted : map (λ s. trial_refusal (trial_with s.0 s.1 s.2)) settings ≡ map (λ _. 0) settings
unfolding trial_refusal settings
w-settings-accepted = refl

-- W, and trials with offers that are set aside
abbrev trials : List Trial
trials = trial_cancelled ∷ trial_w ∷ trial_aside ∷ trial_zeros ∷ []

-- bit i: offer i takes part. One whose differences cancel does, and one of zeros does not; both of W do; W's two and not the third; none
pub live-examples : map live_mask trials ≡ 1 ∷ 3 ∷ 3 ∷ 0 ∷ []
unfolding live_mask trial_cancelled trial_w trial_aside trial_zeros
live-examples = refl

pub accepted-examples : map trial_refusal trials ≡ map (λ _. 0) trials
unfolding trial_refusal trial_cancelled trial_w trial_aside trial_zeros
accepted-examples = refl

-- ---- shops without partners

pub shops-lists : map (shops_of 1) (choices 4 2) ≡ (1 ∷ 2 ∷ []) ∷ (1 ∷ 3 ∷ []) ∷ (1 ∷ 4 ∷ []) ∷ (2 ∷ 3 ∷ []) ∷ (2 ∷ 4 ∷ []) ∷ (3 ∷ 4 ∷ []) ∷ []
unfolding choices shops_of
shops-lists = refl

pub shops-sums : tabulate (row_total trial_shops) (λ g. map (entry_of (Unpaired 4 2) g) (by_offer trial_shops)) ≡ sums_shops
unfolding tabulate row_total entry_of by_offer trial_shops sums_shops
shops-sums = refl

-- both of trial_shops take part; of two_shops the one whose figures differ; the largest trials have 252 and 10 rows, and the list of the last one leaves the first shops
pub ten-shops : (map live_mask (trial_shops ∷ two_shops ∷ ten_shops 5 ∷ ten_shops 9 ∷ []) ≡ 3 ∷ 1 ∷ 1 ∷ 1 ∷ [])
    × (map trial_refusal (trial_shops ∷ two_shops ∷ ten_shops 5 ∷ ten_shops 9 ∷ []) ≡ 0 ∷ 0 ∷ 0 ∷ 0 ∷ [])
    × (map row_total (trial_shops ∷ two_shops ∷ ten_shops 5 ∷ ten_shops 9 ∷ []) ≡ 6 ∷ 2 ∷ 252 ∷ 10 ∷ [])
    × (map (λ g. shops_of 1 (choice_at 10 5 g)) (0 ∷ 1 ∷ 251 ∷ []) ≡ (1 ∷ 2 ∷ 3 ∷ 4 ∷ 5 ∷ []) ∷ (1 ∷ 2 ∷ 3 ∷ 4 ∷ 6 ∷ []) ∷ (6 ∷ 7 ∷ 8 ∷ 9 ∷ 10 ∷ []) ∷ [])
    × (map (λ g. shops_of 1 (choice_at 10 9 g)) (0 ∷ 9 ∷ []) ≡ (1 ∷ 2 ∷ 3 ∷ 4 ∷ 5 ∷ 6 ∷ 7 ∷ 8 ∷ 9 ∷ []) ∷ (2 ∷ 3 ∷ 4 ∷ 5 ∷ 6 ∷ 7 ∷ 8 ∷ 9 ∷ 10 ∷ []) ∷ [])
unfolding live_mask trial_refusal row_total choices shops_of trial_shops two_shops ten_shops
ten-shops = (refl, refl, refl, refl, refl)

-- 9 of 10 shops treated: once the chosen sum less 9 times the one that is left, which is 1 in row 0 and 2 in the others
pub ten-entries : tabulate 10 (λ g. map (entry_of (Unpaired 10 9) g) (by_offer (ten_shops 9))) ≡ (pos 9 ∷ []) ∷ replicate 9 (negsuc 0 ∷ [])
unfolding tabulate entry_of by_offer ten_shops
ten-entries = refl

pub bounds-kept : map (λ (l : ℕ × ℕ). trial_refusal (laid_shops l.0 l.1)) ((2, 1) ∷ (10, 1) ∷ (10, 5) ∷ (10, 9) ∷ []) ≡ 3 ∷ 3 ∷ 3 ∷ 3 ∷ []
unfolding trial_refusal
bounds-kept = refl

pub bounds-left : map (λ (l : ℕ × ℕ). trial_refusal (laid_shops l.0 l.1)) ((0, 0) ∷ (1, 1) ∷ (2, 0) ∷ (2, 2) ∷ (10, 0) ∷ (10, 10) ∷ (11, 5) ∷ (10, 300) ∷ []) ≡ map (λ _. 15) (tabulate 8 (λ i. i))
unfolding trial_refusal tabulate
bounds-left = refl
