-- `trialfile::read` meets its contract.
use mathlib.Core.Path.{sym, ap, ◌∙◌}
use Rattle.std.proofs.Common.{Ok}
use Rattle.std.proofs.lemmas.Result.{err_from_is_err_and}
use Rattle.refusals.proofs.Answers.{ok-for, err-for}
use Rattle.words.specs.Words.{words_of}
use Rattle.trialfile.specs.Files.{trial_of, file_checks, reading_of}
use Rattle.trialfile.proofs.Taken.{file_accepted}
use Rattle.trialfile.proofs.read.Goals as goal

pub returns-in_err-judge : goal.returns-in_err-judge
unfolding reading_of
returns-in_err-judge c =
    let p = err_from_is_err_and c.from_residual.result c.from_residual.ensures.1 in
    rw (p.1, p.2) (sym (err-for (file_checks c.args.file.now) tt (trial_of (words_of c.args.file.now)) _ (sym c.in_err-judge.ensures)))

pub read_trial-requires : goal.read_trial-requires
read_trial-requires c = file_accepted c.args.file.now tt (sym c.in_ok-judge.ensures)

pub returns : goal.returns
unfolding reading_of
returns c =
    let bs = c.args.file.now in
    ap Ok c.read_trial.ensures ∙ sym (ok-for (file_checks bs) tt tt (trial_of (words_of bs)) (sym c.in_ok-judge.ensures))
