-- `table_for_run`: the record and both buffers are checked, and the table is made.
use Rattle.std.proofs.Common.{◌≡◌, sym, ◌∙◌, arith}
use Rattle.std.proofs.lemmas.Result.{err_from_is_err_and}
use Rattle.trial.proofs.Conditions.{refused_is}
use Rattle.trialrun.proofs.Tabled.{size-fits, run_turned, run_short, run_cramped, run-accepted, kept, made, never}
use Rattle.trialrun.proofs.table_for_run.Goals as goal

pub returns-in_err-size-clause-value : goal.returns-in_err-size-clause-value
returns-in_err-size-clause-value c =
    let p = err_from_is_err_and c.from_residual.result c.from_residual.ensures.1 in
    rw (p.1, p.2) (sym (run_turned c.args.t _ c.args.work _ (sym c.in_err-size.ensures)))

pub returns-in_err-size-clause-table_after : goal.returns-in_err-size-clause-table_after
returns-in_err-size-clause-table_after c = sym (kept c.args.t c.args.table.now c.args.work _ (run_turned c.args.t _ c.args.work _ (sym c.in_err-size.ensures)))

pub overflow_mul-size : goal.overflow_mul-size
overflow_mul-size c = record { fits = omega (arith, size-fits c.args.t _ (sym c.in_ok-size.ensures)) }

pub returns-in_err-if_true-clause-value : goal.returns-in_err-if_true-clause-value
returns-in_err-if_true-clause-value c =
    let p = err_from_is_err_and c.from_residual-in_err-if_true.result c.from_residual-in_err-if_true.ensures.1 in
    let r = refused_is _ c.in_err-if_true.ensures.value in
    rw (p.1, p.2, r.1) (sym (run_short c.args.t _ c.args.work _ (sym c.in_ok-size.ensures) r.0))

pub returns-in_err-if_true-clause-table_after : goal.returns-in_err-if_true-clause-table_after
returns-in_err-if_true-clause-table_after c =
    let r = refused_is _ c.in_err-if_true.ensures.value in
    sym (kept c.args.t c.args.table.now c.args.work _ (run_short c.args.t _ c.args.work _ (sym c.in_ok-size.ensures) r.0))

pub returns-in_err-if_true-2-clause-value : goal.returns-in_err-if_true-2-clause-value
returns-in_err-if_true-2-clause-value c =
    let p = err_from_is_err_and c.from_residual-in_err-if_true-2.result c.from_residual-in_err-if_true-2.ensures.1 in
    let r = refused_is _ c.in_err-if_true-2.ensures.value in
    rw (p.1, p.2, r.1) (sym (run_cramped c.args.t _ c.args.work _ (sym c.in_ok-size.ensures) c.in_ok-if_true.ensures.passed r.0))

pub returns-in_err-if_true-2-clause-table_after : goal.returns-in_err-if_true-2-clause-table_after
returns-in_err-if_true-2-clause-table_after c =
    let r = refused_is _ c.in_err-if_true-2.ensures.value in
    sym (kept c.args.t c.args.table.now c.args.work _ (run_cramped c.args.t _ c.args.work _ (sym c.in_ok-size.ensures) c.in_ok-if_true.ensures.passed r.0))

-- the table's own call has nothing left to refuse
pub returns-in_err-table-clause-value : goal.returns-in_err-table-clause-value
returns-in_err-table-clause-value c = absurd (never c.args.t c.args.table.now _ (sym c.in_ok-size.ensures) c.in_ok-if_true.ensures.passed _ (sym c.in_err-table.ensures.value))

pub returns-in_err-table-clause-table_after : goal.returns-in_err-table-clause-table_after
returns-in_err-table-clause-table_after c = absurd (never c.args.t c.args.table.now _ (sym c.in_ok-size.ensures) c.in_ok-if_true.ensures.passed _ (sym c.in_err-table.ensures.value))

pub returns-clause-value : goal.returns-clause-value
returns-clause-value c = sym (run-accepted c.args.t _ c.args.work _ (sym c.in_ok-size.ensures) c.in_ok-if_true.ensures.passed c.in_ok-if_true-2.ensures.passed)

pub returns-clause-table_after : goal.returns-clause-table_after
returns-clause-table_after c =
    c.in_ok-table.ensures.out_after
    ∙ made c.args.t c.args.table.now c.args.work _ (sym c.in_ok-size.ensures) c.in_ok-if_true.ensures.passed (run-accepted c.args.t _ c.args.work _ (sym c.in_ok-size.ensures) c.in_ok-if_true.ensures.passed c.in_ok-if_true-2.ensures.passed)
