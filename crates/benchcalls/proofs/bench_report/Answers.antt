-- `bench_report`: what rendering answers, and its length where it is accepted.
use Rattle.benchcalls.proofs.Calls.{render-zero, render-number, render-kept, render-given}
use Rattle.benchcalls.proofs.bench_report.Goals as goal

pub returns-in-Ok : goal.returns-in-Ok
returns-in-Ok c =
    let p = c.in-Ok.ensures in
    record { value = render-zero _ _ _ p.value; text_after = p.out_after; written_after = render-given _ _ _ p.value _ }

pub returns-in-Err : goal.returns-in-Err
returns-in-Err c =
    let p = c.in-Err.ensures in
    record { value = render-number _ _ _ p.value _ c.from.ensures; text_after = p.out_after; written_after = render-kept _ _ _ p.value _ }
