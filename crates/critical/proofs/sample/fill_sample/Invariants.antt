-- `fill_sample` meets its contract. The invariant is `Sampled` (proofs/Sampling.antt).
use Rattle.critical.proofs.Sampling.{Sampled}
use Rattle.critical.proofs.sample.fill_sample.Given as goal

abbrev pub invariant-loop-g : goal.invariant-loop-g
invariant-loop-g l = Sampled l.table.rows l.initial.work l.work l.n l.g
