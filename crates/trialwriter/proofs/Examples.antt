-- Example: W's file is written as it is printed.
use mathlib.Core.Path.{◌≡◌, refl}
use Rattle.trial.specs.Examples.{trial_w}
use Rattle.words.specs.Words.{bytes_of, bits_of}
use Rattle.trialfile.specs.Examples.{words_w}
use Rattle.trialwriter.specs.Writings.{file_of}

pub write-W : file_of trial_w ≡ bytes_of words_w
unfolding file_of trial_w words_w bits_of
write-W = refl
