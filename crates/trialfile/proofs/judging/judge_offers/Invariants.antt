-- `trialfile::judging::judge_offers` meets its contract. The loop's invariant: the answer of all offers is that of those from offer i on.
use mathlib.Core.Path.{◌≡◌}
use Rattle.refusals.specs.Answers.{places_from, outcome}
use Rattle.refusals.proofs.Places.{places_left}
use Rattle.words.specs.Words.{words_of}
use Rattle.trialfile.specs.Files.{offer_place}
use Rattle.trialfile.proofs.judging.judge_offers.Given as goal

abbrev pub invariant-loop-i : goal.invariant-loop-i
invariant-loop-i l = outcome (places_from (offer_place (words_of l.file) l.l) 0 l.n) (tt {0}) ≡ outcome (places_left (offer_place (words_of l.file) l.l) l.n l.i) (tt {0})
