-- `bench_read`: what reading answers, and the parts of its trial where it is accepted.
use mathlib.Core.Path.{◌∙◌}
use Rattle.benchcalls.specs.Calls.{numbers_of, codes_of, digits_of, figures_of}
use Rattle.benchcalls.proofs.Calls.{read_zero, read_number, read_kept, read-given}
use Rattle.benchcalls.proofs.bench_read.Goals as goal

pub returns-in-Ok : goal.returns-in-Ok
returns-in-Ok c =
    let e = c.in-Ok.ensures in
    let p = c.take_apart.ensures in
    record {
      value = read_zero _ _ e;
      numbers_after = p.numbers_after ∙ read-given _ _ e numbers_of _;
      codes_after = p.codes_after ∙ read-given _ _ e codes_of _;
      digits_after = p.digits_after ∙ read-given _ _ e digits_of _;
      figures_after = p.figures_after ∙ read-given _ _ e figures_of _;
    }

pub returns-in-Err : goal.returns-in-Err
returns-in-Err c =
    let e = c.in-Err.ensures in
    record {
      value = read_number _ _ e _ c.from.ensures;
      numbers_after = read_kept _ _ e numbers_of _;
      codes_after = read_kept _ _ e codes_of _;
      digits_after = read_kept _ _ e digits_of _;
      figures_after = read_kept _ _ e figures_of _;
    }
