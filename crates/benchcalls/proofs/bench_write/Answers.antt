-- `bench_write`: what writing answers, and its length where it is accepted.
use Rattle.benchcalls.proofs.Calls.{answer-moved, buffer_moved, write-zero, write-number, write_kept, write-given}
use Rattle.benchcalls.proofs.bench_write.Goals as goal

pub returns-in-Ok : goal.returns-in-Ok
returns-in-Ok c =
    let q = c.put_together-t.ensures in
    let p = c.in-Ok.ensures in
    let e = answer-moved _ _ q _ _ p.0 in
    record { value = write-zero _ _ _ e; out_after = buffer_moved _ _ q _ _ p.1; written_after = write-given _ _ _ e _ }

pub returns-in-Err : goal.returns-in-Err
returns-in-Err c =
    let q = c.put_together-t.ensures in
    let p = c.in-Err.ensures in
    let e = answer-moved _ _ q _ _ p.0 in
    record { value = write-number _ _ _ e _ c.from.ensures; out_after = buffer_moved _ _ q _ _ p.1; written_after = write_kept _ _ _ e _ }
