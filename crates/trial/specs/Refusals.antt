-- What of a trial record is turned away: 4, 15, 3, then offers (at each, 5 before 6), then figures (7). Definitions only.
--   bad_digits c d       the condition of 5: printed digits outside 1 to 7, or the number c has more digits than d
--   among c earlier      the condition of 6: the number is an earlier offer's
--   bad_difference d     the condition of 7, of a difference or a shop's figure: outside -134,217,727 to 134,217,727
--   heading_checks l s   4 of the shape, with what its layout adds, then 3 of the level
--   earlier code i       the numbers of the first i offers, the last of them first
--   offer_checks code digits i  of offer i (from 0), whose number is code i: 5, then 6
--   figure_checks figure i      of figure i (from 0): 7
--   nth xs d             member i of a list, for each i
--   content_checks c     all of them, in order, of a trial's contents: nothing else is looked at
--   trial_checks t       those of a record
--   trial_refusal t      the number of the first that holds, or 0
use Rattle.std.specs.Prelude.{ℕ, zero, suc, ◌^◌, Bool, false, ◌||◌, List, [], ◌∷◌, ◌++◌, get_or, ltb, leb, eqb, ℤ, pos, nat_abs}
use Rattle.limits.specs.Limits.{offers_most, digits_most, difference_most}
use Rattle.refusals.specs.Answers.{r3, r4, r5, r6, r7, Checks, places_from, first_refusal}
use Rattle.refusals.specs.Limits.{outside, bad_columns, bad_level}
use Rattle.trial.specs.Designs.{design_checks}
use Rattle.trial.specs.Record.{Contents, figure_count, contents}
use Rattle.trial.specs.declared.Level.{Level}
use Rattle.trial.specs.declared.Shape.{Shape}
use Rattle.trial.specs.declared.Trial.{Trial}

unfoldable pub bad_digits : ℕ → ℕ → Bool
bad_digits c d = outside 1 digits_most d || leb (10 ^ d) c

unfoldable pub among : ℕ → List ℕ → Bool
among c [] = false
among c (x ∷ xs) = eqb c x || among c xs

unfoldable pub bad_difference : ℤ → Bool
bad_difference d = ltb difference_most (nat_abs d)

unfoldable pub heading_checks : Level → Shape → Checks
unfolding bad_columns design_checks bad_level
heading_checks l s = (bad_columns offers_most s.offers s.k, r4) ∷ (design_checks s.design ++ ((bad_level l.a l.b, r3) ∷ []))

unfoldable pub earlier : (ℕ → ℕ) → ℕ → List ℕ
earlier code zero = []
earlier code (suc i) = code i ∷ earlier code i

abbrev pub offer_checks : (ℕ → ℕ) → (ℕ → ℕ) → ℕ → Checks
offer_checks code digits i = (bad_digits (code i) (digits i), r5) ∷ (among (code i) (earlier code i), r6) ∷ []

abbrev pub figure_checks : (ℕ → ℤ) → ℕ → Checks
figure_checks figure i = (bad_difference (figure i), r7) ∷ []

abbrev pub nth : {A : Type 0} → List A → A → ℕ → A
nth xs d i = get_or xs i d

unfoldable pub content_checks : Contents → Checks
unfolding heading_checks places_from bad_digits among earlier bad_difference figure_count
content_checks c =
    let s = c.setting in
    heading_checks s.level s.shape
    ++ (places_from (offer_checks (nth s.codes 0) (nth s.digits 0)) 0 s.shape.offers
    ++ places_from (figure_checks (nth c.figures (pos 0))) 0 (figure_count s.shape))

unfoldable pub trial_checks : Trial → Checks
unfolding content_checks figure_count
trial_checks t = content_checks (contents t)

unfoldable pub trial_refusal : Trial → ℕ
unfolding first_refusal trial_checks
trial_refusal t = first_refusal (trial_checks t)
