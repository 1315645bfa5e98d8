-- `walk` meets its contract. What is left of the rejected columns falls with each call, as a number; the sets are those of proofs/Branches.antt, and what a look
-- at the marks tells stands in proofs/Pruning.antt.
use Rattle.putback.proofs.walk.+walk.Given as goal

abbrev pub decreases-walk : goal.decreases-walk
decreases-walk l = l.b.rest
