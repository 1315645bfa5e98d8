-- `bits_of`: two's complement in 28 bits.
use Rattle.words.proofs.Signed.{moved-fits, moved-is, as_is, field-casts, field_is}
use Rattle.trialwriter.proofs.word.bits_of.Goals as goal

pub overflow_add-result : goal.overflow_add-result
overflow_add-result c = moved-fits c.args.d c.requires c.if-d-lt0.true

pub overflow_cast-result : goal.overflow_cast-result
overflow_cast-result c = let d = c.args.d in field-casts d c.requires _ (moved-is d c.requires c.if-d-lt0.true)

pub returns-then-d-lt0 : goal.returns-then-d-lt0
returns-then-d-lt0 c = let d = c.args.d in field_is d c.requires _ (moved-is d c.requires c.if-d-lt0.true)

pub overflow_cast-result-2 : goal.overflow_cast-result-2
overflow_cast-result-2 c = let d = c.args.d in field-casts d c.requires _ (as_is d c.requires c.if-d-lt0.false)

pub returns : goal.returns
returns c = let d = c.args.d in field_is d c.requires _ (as_is d c.requires c.if-d-lt0.false)
