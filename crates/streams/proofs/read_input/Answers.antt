-- `read_input`: what a read puts after the bytes so far is the next of the input.
use Rattle.std.proofs.Common.{ℕ, ◌≡◌, ◌+◌, ◌≤◌, List, ◌++◌, Result, Ok, Err, rules, length, take, drop, sym, ap, ◌∙◌, subst, le_refl, drop_at, length-take-le}
use mathlib.Core.Bool.{true≢false}
use native.Mathlib.Omega.{arith}
use Rattle.std.proofs.lemmas.Slice.{take-put_mid_below}
use Rattle.std.specs.Io.{ReadsAtMost}
use Rattle.std.specs.Io.KnownBytes.{Consumes, ReadConsumes}
use Rattle.std.proofs.KnownBytes.{Consumes-trans}
use Rattle.std.specs.declared.io.Error.{Error}
use Rattle.std.specs.declared.option.Option.{Option}
use borrow.Rule.Slice.PartMut.{put_mid, post_of}
use lib.Seq.{take-add, take-append-le}
use Rattle.streams.specs.Internal.{Told}
use Rattle.streams.proofs.read_input.Goals as goal

-- the bytes before a part of a buffer, and the first of those put into the part
take-put_mid_more : (a k n : ℕ) (xs ys : List ℕ) → a ≤ length xs → n ≤ length ys → take a xs ++ take n ys ≡ take (a + n) (put_mid a k xs ys)
take-put_mid_more a k n xs ys within fits =
    let below = take-put_mid_below a k xs ys a (le_refl a) within in
    let part = ap (take n) (drop_at (take a xs) (ys ++ post_of a k xs) a (length-take-le a xs within)) ∙ take-append-le n ys (post_of a k xs) fits in
    sym (take-add a n (put_mid a k xs ys) ∙ ap (λ l. l ++ take n (drop a (put_mid a k xs ys))) below ∙ ap (λ l. take a xs ++ l) part)

-- after a read of which that many bytes are told, these are what the reader has given
consumed : (got : Result ℕ Error) (at rest now : ℕ) → Told got at rest (Ok now)
    → (first before after : Option (List ℕ)) (xs ys : List ℕ) → at ≤ length xs → length ys ≡ rest → ReadsAtMost got ys → ReadConsumes before after got ys
    → Consumes first before (take at xs) → Consumes first after (take now (put_mid at rest xs ys))
consumed (Ok n) at rest now t first before after xs ys within room bound bytes sofar =
    let now-is : at + n ≡ now = omega (arith, t.counts, bound.0, room) in
    subst (λ m. Consumes first after (take m (put_mid at rest xs ys))) now-is (subst (Consumes first after) (take-put_mid_more at rest n xs ys within bound.0) (Consumes-trans _ _ _ _ _ sofar bytes.0))
consumed (Err x) at rest now t first before after xs ys within room bound bytes sofar = absurd (true≢false t.whole)

pub loop-at-preserved : goal.loop-at-preserved
loop-at-preserved g c =
    (search (rules, c.in_ok-so_far.ensures.within), consumed c.read_some.result _ _ _ c.in_ok-so_far.ensures _ _ _ c.loop-at.buf c.read_some.new.part c.loop-at.invariant.0 (search rules) c.read_some.ensures.bound c.read_some.ensures.bytes c.loop-at.invariant.1)
