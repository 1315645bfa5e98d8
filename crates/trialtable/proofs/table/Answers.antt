-- `trialtable::table` meets its contract: the record is turned away, the buffer is, or the table is written.
use mathlib.Core.Path.{◌≡◌}
use native.Mathlib.Omega.{arith}
use lib.ListN.{length}
use borrow.Author.Rules.{rules}
use borrow.Author.Tests.{ltb-false}
use Rattle.limits.specs.Limits.{figures_most}
use Rattle.std.proofs.lemmas.Result.{err_from_is_err_and}
use Rattle.trialtable.proofs.Calls.{total-fits, fill-allowed, fill_done, record-refused, buffer-decides, buffer-kept, buffer-written}
use Rattle.trialtable.proofs.table.Goals as goal

pub returns-in_err-size-clause-value : goal.returns-in_err-size-clause-value
returns-in_err-size-clause-value c =
    let p = err_from_is_err_and c.from_residual.result c.from_residual.ensures.1 in
    rw (p.1, p.2) (record-refused c.args.t c.args.out.now _ c.in_err-size.ensures)

pub returns-in_err-size-clause-out_after : goal.returns-in_err-size-clause-out_after
returns-in_err-size-clause-out_after c = buffer-kept c.args.t c.args.out.now _ (record-refused c.args.t c.args.out.now _ c.in_err-size.ensures)

pub overflow_mul-size : goal.overflow_mul-size
overflow_mul-size c = omega (arith, total-fits c.args.t _ c.in_ok-size.ensures)

pub returns-in_err-if_true-clause-value : goal.returns-in_err-if_true-clause-value
returns-in_err-if_true-clause-value c =
    let p = err_from_is_err_and c.from_residual-in_err-if_true.result c.from_residual-in_err-if_true.ensures.1 in
    rw (p.1, p.2) (buffer-decides c.args.t c.args.out.now _ c.in_ok-size.ensures _ c.in_err-if_true.ensures.value)

pub returns-in_err-if_true-clause-out_after : goal.returns-in_err-if_true-clause-out_after
returns-in_err-if_true-clause-out_after c =
    buffer-kept c.args.t c.args.out.now _ (buffer-decides c.args.t c.args.out.now _ c.in_ok-size.ensures _ c.in_err-if_true.ensures.value)

pub fill_any-requires : goal.fill_any-requires
fill_any-requires c =
    let held : length c.args.t.figures ≡ figures_most = search rules in
    fill-allowed c.args.t _ c.in_ok-size.ensures held (length c.args.out.now) (ltb-false _ _ c.in_ok-if_true.ensures.passed)

pub returns-clause-value : goal.returns-clause-value
returns-clause-value c = buffer-decides c.args.t c.args.out.now _ c.in_ok-size.ensures _ c.in_ok-if_true.ensures.value

pub returns-clause-out_after : goal.returns-clause-out_after
returns-clause-out_after c =
    buffer-written c.args.t c.args.out.now (buffer-decides c.args.t c.args.out.now _ c.in_ok-size.ensures _ c.in_ok-if_true.ensures.value) _
    (fill_done c.args.t _ c.in_ok-size.ensures c.args.out.now _ c.fill_any.ensures)
