-- `trialwriter::write` meets its contract: refused as the record is, or 12, or the file is written.
use Prim.Native.Nat.{◌+◌, ◌*◌}
use mathlib.Core.Path.{sym}
use native.Mathlib.Omega.{arith}
use lib.Dec.{ltb}
use lib.ListN.{length}
use borrow.Author.Rules.{rules}
use borrow.Author.Tests.{ltb-false}
use Rattle.std.proofs.lemmas.Result.{err_from_is_err_and}
use Rattle.refusals.proofs.Answers.{none_first, ok-none}
use Rattle.trial.specs.Record.{ArrayLengths}
use Rattle.trial.specs.Refusals.{trial_checks, trial_refusal}
use Rattle.trial.proofs.Accepted.{accepted_ok}
use Rattle.trial.proofs.Conditions.{refused_is}
use Rattle.layouts.proofs.Layouts.{length_most, length-is}
use Rattle.trialwriter.proofs.Writes.{record_err, room_judged, unchanged, all_written}
use Rattle.trialwriter.proofs.write.Goals as goal

pub returns-in_err-check : goal.returns-in_err-check
returns-in_err-check c =
    let a = c.args in
    let p = err_from_is_err_and c.from_residual.result c.from_residual.ensures.1 in
    let told = record_err a.t a.out.now _ (sym c.in_err-check.ensures) in
    (rw (p.1, p.2) (sym told), unchanged a.t a.out.now _ told)

pub of_shape-l-requires : goal.of_shape-l-requires
of_shape-l-requires c = let k = accepted_ok c.args.t tt (sym c.in_ok-check.ensures) in (k.offers-most, k.laid.units-most)

pub overflow_add-length : goal.overflow_add-length
overflow_add-length c = let k = accepted_ok c.args.t tt (sym c.in_ok-check.ensures) in let m = length_most _ _ c.of_shape-l.ensures k.offers-most k.laid.units-most in omega arith

pub overflow_mul-length : goal.overflow_mul-length
overflow_mul-length c = let k = accepted_ok c.args.t tt (sym c.in_ok-check.ensures) in let m = length_most _ _ c.of_shape-l.ensures k.offers-most k.laid.units-most in omega arith

pub returns-in_err-if_true : goal.returns-in_err-if_true
returns-in_err-if_true c =
    let a = c.args in
    let p = err_from_is_err_and c.from_residual-in_err-if_true.result c.from_residual-in_err-if_true.ensures.1 in
    let r = refused_is (ltb (length a.out.now) (4 * (c.of_shape-l.result.end + 1))) c.in_err-if_true.ensures.value in
    let told = room_judged a.t a.out.now (sym c.in_ok-check.ensures) _ (length-is _ _ c.of_shape-l.ensures) _ r.0 in
    (rw (p.1, p.2, r.1) (sym told), unchanged a.t a.out.now _ told)

pub write_words-requires : goal.write_words-requires
unfolding trial_refusal
write_words-requires c =
    let a = c.args in
    let ty : ArrayLengths a.t = search rules in
    let l = c.of_shape-l.ensures in
    (ty, none_first (trial_checks a.t) (ok-none (trial_checks a.t) tt _ (sym c.in_ok-check.ensures)), l, omega (arith, length-is _ _ l, ltb-false _ _ c.in_ok-if_true.ensures.passed))

pub returns : goal.returns
returns c =
    let a = c.args in
    let told = room_judged a.t a.out.now (sym c.in_ok-check.ensures) _ (length-is _ _ c.of_shape-l.ensures) _ c.in_ok-if_true.ensures.passed in
    (sym told, all_written a.t a.out.now _ told _ c.write_words.ensures)
