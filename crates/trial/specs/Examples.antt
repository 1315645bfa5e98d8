-- The trial W of the samples as a record, trials with offers that are set aside, and trials of shops without partners: places that the counts
-- don't use hold zero. Definitions only.
--   trial_with a b k   W at level a/b with tolerance k
--   trial_w            W as printed: at 1/4 with k 1
--   sums_w             the sums of its rows, offer by offer
--   settings           the settings of the starred examples of W: a, b and k
--   trial_aside        W with a third offer, 04711, whose differences are all 0: it is set aside
--   trial_front        the same with that offer in front of W's
--   trial_cancelled    two offers with k 2: the differences of 0042 cancel, and it takes part; those of 7 are 0, so fewer than k offers remain
--   trial_zeros        two offers, neither of them tested
--   trial_shops        two offers in 4 shops, 2 of them treated, worked by hand below
--   sums_shops         the entries of its rows, offer by offer
--   two_shops          2 shops, 1 of them treated: 0042 is tested, and 7 has equal figures in both
--   ten_shops treated  one offer in 10 shops: 2 in each of the first nine, 1 in the last
--   laid_shops shops treated    one offer without figures in so many shops, at a level that is refused
use Rattle.std.specs.Prelude.{ℕ, List, [], ◌∷◌, replicate, ℤ, pos, negsuc}
use Rattle.trial.specs.declared.Design.TheVariants.{Paired, Unpaired}
use Rattle.trial.specs.declared.Trial.{Trial}

abbrev pub trial_with : ℕ → ℕ → ℕ → Trial
trial_with a b k = record {
  level = record { a = a; b = b };
  shape = record { k = k; offers = 2; design = Paired 3 };
  labels = record { codes = 42 ∷ 7 ∷ replicate 14 0; digits = 4 ∷ 1 ∷ replicate 14 0 };
  figures = pos 5 ∷ pos 3 ∷ pos 4 ∷ pos 2 ∷ negsuc 0 ∷ pos 1 ∷ replicate 154 (pos 0);
}

unfoldable pub trial_w : Trial
trial_w = trial_with 1 4 1

unfoldable pub sums_w : List (List ℤ)
sums_w =
    (pos 12 ∷ pos 2 ∷ [])
    ∷ (pos 2 ∷ negsuc 1 ∷ [])
    ∷ (pos 6 ∷ pos 4 ∷ [])
    ∷ (negsuc 3 ∷ pos 0 ∷ [])
    ∷ (pos 4 ∷ pos 0 ∷ [])
    ∷ (negsuc 5 ∷ negsuc 3 ∷ [])
    ∷ (negsuc 1 ∷ pos 2 ∷ [])
    ∷ (negsuc 11 ∷ negsuc 1 ∷ [])
    ∷ []

-- as printed; at 1/8; at 1/9; at 7/8; with k 2; with k 2 at 1/9
unfoldable pub settings : List (ℕ × ℕ × ℕ)
settings = (1, 4, 1) ∷ (1, 8, 1) ∷ (1, 9, 1) ∷ (7, 8, 1) ∷ (1, 4, 2) ∷ (1, 9, 2) ∷ []

unfoldable pub trial_aside : Trial
trial_aside = record {
  level = record { a = 1; b = 4 };
  shape = record { k = 1; offers = 3; design = Paired 3 };
  labels = record { codes = 42 ∷ 7 ∷ 4711 ∷ replicate 13 0; digits = 4 ∷ 1 ∷ 5 ∷ replicate 13 0 };
  figures = pos 5 ∷ pos 3 ∷ pos 4 ∷ pos 2 ∷ negsuc 0 ∷ pos 1 ∷ pos 0 ∷ pos 0 ∷ pos 0 ∷ replicate 151 (pos 0);
}

unfoldable pub trial_front : Trial
trial_front = record {
  level = record { a = 1; b = 4 };
  shape = record { k = 1; offers = 3; design = Paired 3 };
  labels = record { codes = 4711 ∷ 42 ∷ 7 ∷ replicate 13 0; digits = 5 ∷ 4 ∷ 1 ∷ replicate 13 0 };
  figures = pos 0 ∷ pos 0 ∷ pos 0 ∷ pos 5 ∷ pos 3 ∷ pos 4 ∷ pos 2 ∷ negsuc 0 ∷ pos 1 ∷ replicate 151 (pos 0);
}

unfoldable pub trial_cancelled : Trial
trial_cancelled = record {
  level = record { a = 1; b = 4 };
  shape = record { k = 2; offers = 2; design = Paired 2 };
  labels = record { codes = 42 ∷ 7 ∷ replicate 14 0; digits = 4 ∷ 1 ∷ replicate 14 0 };
  figures = pos 5 ∷ negsuc 4 ∷ pos 0 ∷ pos 0 ∷ replicate 156 (pos 0);
}

unfoldable pub trial_zeros : Trial
trial_zeros = record {
  level = record { a = 1; b = 4 };
  shape = record { k = 1; offers = 2; design = Paired 1 };
  labels = record { codes = 42 ∷ 7 ∷ replicate 14 0; digits = 4 ∷ 1 ∷ replicate 14 0 };
  figures = pos 0 ∷ pos 0 ∷ replicate 158 (pos 0);
}

-- 0042 has 9 7 2 4 and 7 has 3 -1 5 1, in the shops 1 to 4. An entry is 2 times the chosen sum less 2 times the remaining sum.
--   chosen     0042                       7
--   1, 2       2 × 16 - 2 × 6 = 20        2 × 2 - 2 × 6 = -8
--   1, 3       2 × 11 - 2 × 11 = 0        2 × 8 - 2 × 0 = 16
--   1, 4       2 × 13 - 2 × 9 = 8         2 × 4 - 2 × 4 = 0
--   2, 3       2 × 9 - 2 × 13 = -8        2 × 4 - 2 × 4 = 0
--   2, 4       2 × 11 - 2 × 11 = 0        2 × 0 - 2 × 8 = -16
--   3, 4       2 × 6 - 2 × 16 = -20       2 × 6 - 2 × 2 = 8
-- At 1/6 one row in six may lie above a critical value. The largest of each row are 20, 16, 8, 0, 0, 8, so the fifth smallest is 16, of row 1 and offer 7: 20 is
-- above it, and 0042 is rejected. Of offer 7 alone the values are -8, 16, 0, 0, -16, 8, and the fifth smallest is 8, of row 5: -8 is not above it, and 7 is kept.
-- 20 is reached in one row, and -8 in five.
unfoldable pub trial_shops : Trial
trial_shops = record {
  level = record { a = 1; b = 6 };
  shape = record { k = 1; offers = 2; design = Unpaired 4 2 };
  labels = record { codes = 42 ∷ 7 ∷ replicate 14 0; digits = 4 ∷ 1 ∷ replicate 14 0 };
  figures = pos 9 ∷ pos 7 ∷ pos 2 ∷ pos 4 ∷ pos 3 ∷ negsuc 0 ∷ pos 5 ∷ pos 1 ∷ replicate 152 (pos 0);
}

unfoldable pub sums_shops : List (List ℤ)
sums_shops =
    (pos 20 ∷ negsuc 7 ∷ [])
    ∷ (pos 0 ∷ pos 16 ∷ [])
    ∷ (pos 8 ∷ pos 0 ∷ [])
    ∷ (negsuc 7 ∷ pos 0 ∷ [])
    ∷ (pos 0 ∷ negsuc 15 ∷ [])
    ∷ (negsuc 19 ∷ pos 8 ∷ [])
    ∷ []

unfoldable pub two_shops : Trial
two_shops = record {
  level = record { a = 1; b = 2 };
  shape = record { k = 1; offers = 2; design = Unpaired 2 1 };
  labels = record { codes = 42 ∷ 7 ∷ replicate 14 0; digits = 4 ∷ 1 ∷ replicate 14 0 };
  figures = pos 3 ∷ pos 1 ∷ pos 5 ∷ pos 5 ∷ replicate 156 (pos 0);
}

unfoldable pub ten_shops : ℕ → Trial
ten_shops treated = record {
  level = record { a = 1; b = 10 };
  shape = record { k = 1; offers = 1; design = Unpaired 10 treated };
  labels = record { codes = 7 ∷ replicate 15 0; digits = 1 ∷ replicate 15 0 };
  figures = pos 2 ∷ pos 2 ∷ pos 2 ∷ pos 2 ∷ pos 2 ∷ pos 2 ∷ pos 2 ∷ pos 2 ∷ pos 2 ∷ pos 1 ∷ replicate 150 (pos 0);
}

abbrev pub laid_shops : ℕ → ℕ → Trial
laid_shops shops treated = record {
  level = record { a = 0; b = 0 };
  shape = record { k = 1; offers = 1; design = Unpaired shops treated };
  labels = record { codes = replicate 16 0; digits = replicate 16 0 };
  figures = replicate 160 (pos 0);
}
