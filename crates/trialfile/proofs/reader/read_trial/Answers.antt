-- `trialfile::reader::read_trial` meets its contract: the counts of an accepted file fit the arrays, and its parts make its trial.
use native.Mathlib.Omega.{arith}
use Rattle.layouts.proofs.Layouts.{count_most, stands}
use Rattle.trialfile.proofs.Taken.{shape-fits, file-long, trial-read}
use Rattle.trialfile.proofs.reader.read_trial.Goals as goal

pub of_shape-l-requires : goal.of_shape-l-requires
of_shape-l-requires c = shape-fits _ c.requires _ _ c.word_at-2.ensures c.shape_of-shape.ensures

pub read_labels-labels-requires : goal.read_labels-labels-requires
read_labels-labels-requires c =
    let f = shape-fits _ c.requires _ _ c.word_at-2.ensures c.shape_of-shape.ensures in
    (f.0, omega (arith, (stands _ _ c.of_shape-l.ensures).offers-at))

pub overflow_sub-l : goal.overflow_sub-l
overflow_sub-l c = let p = stands _ _ c.of_shape-l.ensures in omega (arith, p.figures-at, p.end-at)

pub read_figures-figures-requires : goal.read_figures-figures-requires
read_figures-figures-requires c =
    let f = shape-fits _ c.requires _ _ c.word_at-2.ensures c.shape_of-shape.ensures in
    let p = stands _ _ c.of_shape-l.ensures in
    let m = count_most c.shape_of-shape.result f.0 f.1 in
    let long = file-long _ c.requires _ _ c.of_shape-l.result c.word_at-2.ensures c.shape_of-shape.ensures c.of_shape-l.ensures in
    (omega (arith, p.figures-at, p.end-at, m), omega (arith, p.figures-at, f.0), omega (arith, p.figures-at, p.end-at, long))

pub returns : goal.returns
returns c =
    let p = stands _ _ c.of_shape-l.ensures in
    trial-read _ _ _ _ _ _ _ _ _ _ c.word_at.ensures c.level_of-level.ensures c.word_at-2.ensures c.shape_of-shape.ensures c.of_shape-l.ensures (omega (arith, p.figures-at, p.end-at)) c.read_labels-labels.ensures.0 c.read_labels-labels.ensures.1 c.read_figures-figures.ensures
