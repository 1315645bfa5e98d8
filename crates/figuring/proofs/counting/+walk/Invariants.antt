-- `walk` meets its contract. What is left of the passed columns falls with each call, as a number; each case is a law of proofs/PutBackCounts.antt.
use Rattle.figuring.proofs.counting.+walk.Given as goal

abbrev pub decreases-walk : goal.decreases-walk
decreases-walk l = l.rest
