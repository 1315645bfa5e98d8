-- `trialwriter::writer::write_words` meets its contract: level, shape, offers, figures and end, one after the other at the places of the layout.
use native.Mathlib.Omega.{arith}
use Rattle.trialwriter.proofs.Written.{file_length-is, file_length-most}
use Rattle.trialwriter.proofs.Writes.{writable, all-stored}
use Rattle.trialwriter.proofs.writer.write_words.Goals as goal

pub level_word-requires : goal.level_word-requires
level_word-requires c =
    let p = c.requires in
    let able = writable c.args.t c.args.l p.0 p.1 p.2 in
    let at = able.placed in
    (omega (arith, able.a-most, able.b-most), omega (arith, able.a-most, able.b-most))

pub shape_word-requires : goal.shape_word-requires
shape_word-requires c =
    let p = c.requires in
    let able = writable c.args.t c.args.l p.0 p.1 p.2 in
    let at = able.placed in
    (able.k-most, able.offers-most, able.layout-good)

pub put_word-requires-2 : goal.put_word-requires-2
put_word-requires-2 c =
    let p = c.requires in
    let able = writable c.args.t c.args.l p.0 p.1 p.2 in
    let at = able.placed in
    (omega arith, omega (arith, able.all_words, p.3, at.end-at, c.put_word.auto.out))

pub write_offers-requires : goal.write_offers-requires
write_offers-requires c =
    let p = c.requires in
    let able = writable c.args.t c.args.l p.0 p.1 p.2 in
    let at = able.placed in (
      able.offers-most,
      omega (arith, p.0.codes-length, able.offers-most),
      omega (arith, p.0.digits-length, able.offers-most),
      omega (arith, at.offers-at),
      omega (arith, able.all_words, p.3, at.offers-at, at.end-at, c.put_word-2.auto.out, c.put_word.auto.out),
      able.labels-ok,
    )

pub overflow_sub-l : goal.overflow_sub-l
overflow_sub-l c =
    let p = c.requires in
    let able = writable c.args.t c.args.l p.0 p.1 p.2 in
    let at = able.placed in
    omega (arith, at.figures-at, at.end-at)

pub write_figures-requires : goal.write_figures-requires
write_figures-requires c =
    let p = c.requires in
    let able = writable c.args.t c.args.l p.0 p.1 p.2 in
    let at = able.placed in
    let n = able.figures-most in (
      omega (arith, at.figures-at, at.end-at),
      omega (arith, at.figures-at, at.end-at, p.0.figures-length),
      omega (arith, at.figures-at, able.offers-most),
      omega (arith, able.all_words, p.3, at.figures-at, at.end-at, c.write_offers.auto.out, c.put_word-2.auto.out, c.put_word.auto.out),
      λ i k. able.figures-ok i (omega (arith, at.figures-at, at.end-at)),
    )

pub end_word-requires : goal.end_word-requires
end_word-requires c =
    let p = c.requires in
    let able = writable c.args.t c.args.l p.0 p.1 p.2 in
    let at = able.placed in
    omega (arith, able.all_words, file_length-most _ p.0 p.1)

pub put_word-requires-3 : goal.put_word-requires-3
put_word-requires-3 c =
    let p = c.requires in
    let able = writable c.args.t c.args.l p.0 p.1 p.2 in
    let at = able.placed in (
      omega (arith, able.all_words, file_length-most _ p.0 p.1),
      omega (arith, able.all_words, p.3, c.write_figures.auto.out, c.write_offers.auto.out, c.put_word-2.auto.out, c.put_word.auto.out),
    )

pub returns : goal.returns
returns c =
    let p = c.requires in
    let able = writable c.args.t c.args.l p.0 p.1 p.2 in
    let at = able.placed in
    all-stored c.args.t c.args.l able _ _ _ _ _ _ _ _ _ _ (omega (arith, file_length-is _ p.0 p.1, p.3)) (omega (arith, at.figures-at, at.end-at)) c.level_word.ensures c.put_word.ensures
    c.shape_word.ensures c.put_word-2.ensures c.write_offers.ensures c.write_figures.ensures c.end_word.ensures c.put_word-3.ensures
