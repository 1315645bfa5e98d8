-- `bench_table`: what a full run answers, and its parts where it is accepted.
use mathlib.Core.Path.{ap, ◌∙◌}
use Rattle.benchcalls.specs.Calls.{steps_in, criticals_in, bar_rows_in, bar_offers_in, counts_in, verdicts_of}
use Rattle.benchcalls.specs.declared.Logged.{Logged}
use Rattle.benchcalls.proofs.Calls.{run-zero, run-number, run-kept, run-given}
use Rattle.benchcalls.proofs.bench_table.Goals as goal

pub returns-in-Ok : goal.returns-in-Ok
returns-in-Ok c =
    let p = c.in-Ok.ensures in
    let e = p.value in
    let l = c.logged_in.ensures in
    record {
      value = run-zero _ _ _ _ _ _ _ _ _ e;
      work_after = p.work_after;
      steps_after = run-given _ _ _ _ _ _ _ _ _ e steps_in _;
      criticals_after = ap (λ (x : Logged). x.criticals) l ∙ run-given _ _ _ _ _ _ _ _ _ e criticals_in _;
      barrows_after = ap (λ (x : Logged). x.rows) l ∙ run-given _ _ _ _ _ _ _ _ _ e bar_rows_in _;
      baroffers_after = ap (λ (x : Logged). x.offers) l ∙ run-given _ _ _ _ _ _ _ _ _ e bar_offers_in _;
      counts_after = run-given _ _ _ _ _ _ _ _ _ e counts_in _;
      verdicts_after = c.bytes_of-s.ensures ∙ run-given _ _ _ _ _ _ _ _ _ e verdicts_of _;
    }

pub returns-in-Err : goal.returns-in-Err
returns-in-Err c =
    let p = c.in-Err.ensures in
    let e = p.value in
    record {
      value = run-number _ _ _ _ _ _ _ _ _ e _ c.from.ensures;
      work_after = p.work_after;
      steps_after = run-kept _ _ _ _ _ _ _ _ _ e steps_in _;
      criticals_after = run-kept _ _ _ _ _ _ _ _ _ e criticals_in _;
      barrows_after = run-kept _ _ _ _ _ _ _ _ _ e bar_rows_in _;
      baroffers_after = run-kept _ _ _ _ _ _ _ _ _ e bar_offers_in _;
      counts_after = run-kept _ _ _ _ _ _ _ _ _ e counts_in _;
      verdicts_after = run-kept _ _ _ _ _ _ _ _ _ e verdicts_of _;
    }
