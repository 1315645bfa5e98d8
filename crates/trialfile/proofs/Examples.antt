-- Examples: W's file is read as it is printed, and those of trials with offers that are set aside and of shops without partners; which
-- refusals some other files meet.
use Rattle.std.proofs.Common.{Ok}
use mathlib.Core.Path.{◌≡◌, refl}
use mathlib.Core.List.{[], ◌∷◌, map}
use Rattle.trial.specs.Examples.{trial_w, trial_aside, trial_cancelled, trial_zeros, trial_shops, two_shops, ten_shops}
use Rattle.words.specs.Words.{bytes_of, signed}
use Rattle.trialfile.specs.Files.{file_refusal, reading_of}
use Rattle.trialfile.specs.Examples.{words_w, words_twice, words_surplus, words_after, words_aside, words_cancelled, words_zeros, words_shops, words_two_shops, words_ten_shops, words_shaped}

pub read-W : reading_of (bytes_of words_w) ≡ Ok trial_w
unfolding reading_of words_w trial_w signed bytes_of
read-W = refl

pub read-aside : (reading_of (bytes_of words_aside) ≡ Ok trial_aside) × (reading_of (bytes_of words_cancelled) ≡ Ok trial_cancelled) × (reading_of (bytes_of words_zeros) ≡ Ok trial_zeros)
unfolding reading_of words_aside words_cancelled words_zeros trial_aside trial_cancelled trial_zeros signed bytes_of
read-aside = (refl, refl, refl)

pub read-shops : (reading_of (bytes_of words_shops) ≡ Ok trial_shops) × (reading_of (bytes_of words_two_shops) ≡ Ok two_shops) × (reading_of (bytes_of words_ten_shops) ≡ Ok (ten_shops 9))
unfolding reading_of words_shops words_two_shops words_ten_shops trial_shops two_shops ten_shops signed bytes_of
read-shops = (refl, refl, refl)

-- the shape word of shops: 11 shops, one shop, none treated, all treated; with k 0 or no offer as well; and a shape of ten pairs, and a word that is no shape
pub shapes-refused : map (λ w. file_refusal (bytes_of (words_shaped w))) (1359088386 ∷ 1359085825 ∷ 1359086592 ∷ 1359086596 ∷ 1342311170 ∷ 1358957314 ∷ 536936970 ∷ 1610678787 ∷ []) ≡ 15 ∷ 15 ∷ 15 ∷ 15 ∷ 4 ∷ 4 ∷ 4 ∷ 2 ∷ []
unfolding file_refusal signed bytes_of
shapes-refused = refl

-- 0042 and 42 are the same offer
pub twice-6 : file_refusal (bytes_of words_twice) ≡ 6
unfolding file_refusal words_twice signed bytes_of
twice-6 = refl

-- in the end's place any other word is 2
pub surplus-2 : file_refusal (bytes_of words_surplus) ≡ 2
unfolding file_refusal words_surplus signed bytes_of
surplus-2 = refl

pub after-8 : file_refusal (bytes_of words_after) ≡ 8
unfolding file_refusal words_after signed bytes_of
after-8 = refl
