-- `push_code`: the digits still to put fall with each call.
use Rattle.text.proofs.+push_code.Given as goal

abbrev pub decreases-push_code : goal.decreases-push_code
decreases-push_code g l = l.digits
