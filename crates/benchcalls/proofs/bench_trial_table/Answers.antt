-- `bench_trial_table`: what making the table answers and leaves, of the trial that the arrays hold.
use Rattle.benchcalls.proofs.Calls.{table-moved, places-moved, table-zero, table-number}
use Rattle.benchcalls.proofs.bench_trial_table.Goals as goal

pub returns-in-Ok : goal.returns-in-Ok
returns-in-Ok c =
    let q = c.put_together-t.ensures in
    let p = c.in-Ok.ensures in
    record { value = table-zero _ _ _ (table-moved _ _ q _ _ p.value); out_after = places-moved _ _ q _ _ p.out_after }

pub returns-in-Err : goal.returns-in-Err
returns-in-Err c =
    let q = c.put_together-t.ensures in
    let p = c.in-Err.ensures in
    record { value = table-number _ _ _ (table-moved _ _ q _ _ p.value) _ c.from.ensures; out_after = places-moved _ _ q _ _ p.out_after }
