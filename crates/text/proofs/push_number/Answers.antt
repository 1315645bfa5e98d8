-- `push_number`: what std writes of a number is its text.
use Rattle.std.proofs.Common.{rules, ◌≡◌, ◌∙◌}
use Rattle.text.specs.Text.{decimal}
use Rattle.text.proofs.Numbers.{decimal-is}
use Rattle.text.proofs.push_number.Goals as goal

pub push_str-requires : goal.push_str-requires
push_str-requires g c = let e : c.format.result.now ≡ decimal c.args.n = c.format.ensures.text ∙ decimal-is _ c.ranges.n.fits in (search rules, rw e c.requires.room)

pub returns : goal.returns
returns g c =
    let e : c.format.result.now ≡ decimal c.args.n = c.format.ensures.text ∙ decimal-is _ c.ranges.n.fits in
    record { bytes = cc (c.push_str.ensures.bytes); len = rw e at c.push_str.ensures.len }
