-- `trialfile::judging::judge_figures` meets its contract. The loop's invariant: the answer of all figures is that of those from figure i on.
use mathlib.Core.Path.{◌≡◌}
use Rattle.refusals.specs.Answers.{places_from, outcome}
use Rattle.refusals.proofs.Places.{places_left}
use Rattle.words.specs.Words.{words_of}
use Rattle.trialfile.specs.Files.{figure_place}
use Rattle.trialfile.proofs.judging.judge_figures.Given as goal

abbrev pub invariant-loop-i : goal.invariant-loop-i
invariant-loop-i l = outcome (places_from (figure_place (words_of l.file) l.l) 0 l.n) (tt {0}) ≡ outcome (places_left (figure_place (words_of l.file) l.l) l.n l.i) (tt {0})
