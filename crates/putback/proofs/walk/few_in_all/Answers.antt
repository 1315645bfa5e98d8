-- `few_in_all` meets its contract.
use Rattle.putback.proofs.Pruning.{all-few, unite-is, rest-room, unite-room}
use Rattle.putback.proofs.walk.few_in_all.Goals as goal

pub overflow_mul-all : goal.overflow_mul-all
overflow_mul-all c = record { fits = rest-room c.args.b _ c.bit.ensures c.requires.4 }

pub overflow_add-all : goal.overflow_add-all
overflow_add-all c = record { fits = unite-room c.args.b _ c.bit.ensures c.requires.4 }

pub returns : goal.returns
returns c = all-few _ _ _ c.args.b _ _ (unite-is c.args.b _ c.bit.ensures) c.count_holding.ensures
