-- `push_cents`: what std writes of the number of cents is its text.
use Rattle.std.proofs.Common.{arith, rules, ◌≡◌, ◌∷◌, [], ◌∙◌, append_assoc}
use Rattle.text.specs.Text.{decimal_int, cents}
use Rattle.text.proofs.Cents.{cents-text}
use Rattle.text.proofs.push_cents.Goals as goal

pub push_str-requires-2 : goal.push_str-requires-2
push_str-requires-2 g c =
    let e : c.format.result.now ≡ decimal_int (cents c.args.c) = c.format.ensures.text ∙ cents-text c.args.c c.requires.whole.0 c.requires.whole.1 in
    (search rules, rw e (omega (arith, c.requires.room, c.push_str.ensures.len)))

pub returns : goal.returns
returns g c =
    let e : c.format.result.now ≡ decimal_int (cents c.args.c) = c.format.ensures.text ∙ cents-text c.args.c c.requires.whole.0 c.requires.whole.1 in
    let a = append_assoc c.args.text.now.bytes (32 ∷ []) (decimal_int (cents c.args.c)) in
    record { bytes = cc (c.push_str.ensures.bytes, c.push_str-2.ensures.bytes); len = omega (arith, c.push_str.ensures.len, rw e at c.push_str-2.ensures.len) }
