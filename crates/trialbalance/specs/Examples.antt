-- The trial milk and saffron as a record: places that its counts don't use hold zero. Definitions only.
--   trial_saffron    milk, 4011, and saffron, 0907, in 3 pairs, at 1/4 with k 1; its file is samples/saffron.trial
use Rattle.std.specs.Prelude.{◌∷◌, replicate, pos, negsuc}
use Rattle.trial.specs.declared.Design.TheVariants.{Paired}
use Rattle.trial.specs.declared.Trial.{Trial}

unfoldable pub trial_saffron : Trial
trial_saffron = record {
  level = record { a = 1; b = 4 };
  shape = record { k = 1; offers = 2; design = Paired 3 };
  labels = record { codes = 4011 ∷ 907 ∷ replicate 14 0; digits = 4 ∷ 4 ∷ replicate 14 0 };
  figures = pos 500 ∷ negsuc 299 ∷ pos 200 ∷ pos 3 ∷ pos 2 ∷ pos 1 ∷ replicate 154 (pos 0);
}
