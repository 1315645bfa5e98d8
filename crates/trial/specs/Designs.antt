-- How a trial was laid out, and all that goes by its cases: nothing else of a trial knows them. Definitions only.
--   same_figure x y      two figures are equal
--   alike z xs           every figure equals z
--   bad_shops n t        the condition of 15: n shops are not 2 to 10, or t treated ones are not 1 to all but one
--   design_checks d      what a layout is turned away for: pairs outside their range (4), shops or treated outside theirs (15)
--   units_of d           figures of an offer: one of each pair, or of each shop
--   row_count d          M: the rows of the table, one for each way to exchange the shops of pairs, or for each choice of shops
--   entry_of d g xs       the whole number in row g of an offer with the figures xs
--   listed d g xs        what run g of demand 3 lists as the figures of an idle offer that has the figures xs
--   yardstick d xs       what the figures xs are compared with: 0 in pairs, the first figure in shops
--   untested d xs        an offer with the figures xs has not been tested and is set aside: every difference is 0, or the
--                        figures are equal in all shops
use Rattle.std.specs.Prelude.{ℕ, ◌-◌, ◌^◌, Bool, false, ◌||◌, List, [], ◌∷◌, eqb, length, get_or, ℤ, pos, negsuc}
use Rattle.limits.specs.Limits.{pairs_most, shops_most}
use Rattle.order.specs.Counting.{all}
use Rattle.refusals.specs.Answers.{r4, r15, Checks}
use Rattle.refusals.specs.Limits.{outside}
use Rattle.trial.specs.Pairs.{signed_sum, exchanged_by}
use Rattle.trial.specs.Choices.{choices, choice_at, contrast, chosen_first}
use Rattle.trial.specs.declared.Design.{Design}
use Rattle.trial.specs.declared.Design.TheVariants.{Paired, Unpaired}

unfoldable pub same_figure : ℤ → ℤ → Bool
same_figure (pos m) (pos n) = eqb m n
same_figure (pos m) (negsuc n) = false
same_figure (negsuc m) (pos n) = false
same_figure (negsuc m) (negsuc n) = eqb m n

unfoldable pub alike : ℤ → List ℤ → Bool
unfolding all same_figure
alike z xs = all (λ x. same_figure x z) xs

-- ---- by cases

abbrev pub bad_shops : ℕ → ℕ → Bool
bad_shops shops treated = outside 2 shops_most shops || outside 1 (shops - 1) treated

unfoldable pub design_checks : Design → Checks
design_checks (Paired pairs) = (outside 1 pairs_most pairs, r4) ∷ []
design_checks (Unpaired shops treated) = (bad_shops shops treated, r15) ∷ []

unfoldable pub units_of : Design → ℕ
units_of (Paired pairs) = pairs
units_of (Unpaired shops treated) = shops

unfoldable pub row_count : Design → ℕ
unfolding choices
row_count (Paired pairs) = 2 ^ pairs
row_count (Unpaired shops treated) = length (choices shops treated)

unfoldable pub entry_of : Design → ℕ → List ℤ → ℤ
unfolding signed_sum choices contrast
entry_of (Paired pairs) g xs = signed_sum g xs
entry_of (Unpaired shops treated) g xs = contrast shops treated (choice_at shops treated g) xs

unfoldable pub listed : Design → ℕ → List ℤ → List ℤ
unfolding exchanged_by choices chosen_first
listed (Paired pairs) g xs = exchanged_by g xs
listed (Unpaired shops treated) g xs = chosen_first (choice_at shops treated g) xs

unfoldable pub yardstick : Design → List ℤ → ℤ
yardstick (Paired pairs) xs = pos 0
yardstick (Unpaired shops treated) xs = get_or xs 0 (pos 0)

-- ---- set aside

unfoldable pub untested : Design → List ℤ → Bool
unfolding alike yardstick
untested d xs = alike (yardstick d xs) xs
