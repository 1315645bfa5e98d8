-- `trialfile::judging::judge` meets its contract: 1, then the level, the shape and what comes after.
use mathlib.Core.Path.{sym, ap, ◌∙◌}
use mathlib.Core.Bool.{Bool}
use Rattle.refusals.specs.Answers.{refused_where}
use Rattle.refusals.specs.declared.refusal.Refusal.TheVariants.{FileLength}
use Rattle.std.proofs.lemmas.Result.{err_from_is_err_and}
use Rattle.trialfile.proofs.Judged.{shape_most, length_err, level_err, shape_err, body_left}
use Rattle.trialfile.proofs.judging.judge.Goals as goal

pub returns-in_err-if_true : goal.returns-in_err-if_true
returns-in_err-if_true c =
    let p = err_from_is_err_and c.from_residual.result c.from_residual.ensures.1 in
    rw (p.1, p.2) (sym (length_err c.args.file.now tt tt _ (c.in_err-if_true.ensures.value ∙ ap (λ (b : Bool). refused_where b FileLength) c.bad_length.ensures)))

pub returns-in_err-judge_level : goal.returns-in_err-judge_level
returns-in_err-judge_level c =
    let p = err_from_is_err_and c.from_residual-in_err-judge_level.result c.from_residual-in_err-judge_level.ensures.1 in
    rw (p.1, p.2) (sym (level_err c.args.file.now tt tt (sym c.bad_length.ensures ∙ c.in_ok-if_true.ensures.passed) _ c.word_at.ensures _ (sym c.in_err-judge_level.ensures)))

pub returns-in_err-judge_shape : goal.returns-in_err-judge_shape
returns-in_err-judge_shape c =
    let p = err_from_is_err_and c.from_residual-in_err-judge_shape.result c.from_residual-in_err-judge_shape.ensures.1 in
    rw (p.1, p.2)
    (sym (shape_err c.args.file.now tt tt (sym c.bad_length.ensures ∙ c.in_ok-if_true.ensures.passed) _ c.word_at.ensures _ (sym c.in_ok-judge_level.ensures) _ c.word_at-w.ensures _ (sym c.in_err-judge_shape.ensures)))

pub judge_body-requires : goal.judge_body-requires
judge_body-requires c = shape_most _ _ (sym c.in_ok-judge_shape.ensures) c.shape_of.ensures

pub returns : goal.returns
returns c =
    c.judge_body.ensures
    ∙ sym (body_left c.args.file.now tt tt (sym c.bad_length.ensures ∙ c.in_ok-if_true.ensures.passed) _ c.word_at.ensures _ (sym c.in_ok-judge_level.ensures) _ c.word_at-w.ensures (sym c.in_ok-judge_shape.ensures) _ c.shape_of.ensures)
