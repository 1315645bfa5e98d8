-- `push_code`: the last digit after the others.
use Rattle.std.proofs.Common.{arith, rules, ◌-◌, ◌/◌, ◌%◌, append_assoc, append-nil}
use Rattle.text.specs.Text.{digit, printed}
use Rattle.text.proofs.Numbers.{decimal-digit, printed-none, printed-more}
use Rattle.text.proofs.+push_code.Goals as goal

pub push_number-requires : goal.push_number-requires
push_number-requires g t c =
    let d = decimal-digit (c.args.code % 10) (omega arith) in
    (search rules, rw d (omega arith))

pub returns-then-digits-gt0 : goal.returns-then-digits-gt0
returns-then-digits-gt0 g t c =
    let e = printed-more c.args.digits c.args.code c.if-digits-gt0.true in
    let d = decimal-digit (c.args.code % 10) (omega arith) in
    let a = append_assoc c.args.text.now.bytes (printed (c.args.digits - 1) (c.args.code / 10)) (digit (c.args.code % 10)) in
    record { bytes = cc (c.push_code.ensures.bytes, c.push_number.ensures.bytes); len = omega (arith, rw d at c.push_number.ensures.len) }

pub returns-else-digits-gt0 : goal.returns-else-digits-gt0
returns-else-digits-gt0 g t c = record { bytes = rw (printed-none c.args.digits c.args.code (omega arith), append-nil); len = omega arith }
