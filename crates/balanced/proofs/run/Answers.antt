-- `run`: it reads as much as a balanced report looks at, and its text buffer holds every one whole.
use Rattle.rendering.proofs.Lengths.{balanced-report-fits}
use Rattle.rendering.proofs.Inputs.{balanced-cut-off}
use Rattle.balanced.proofs.run.Goals as goal

pub run-requires-clause-cut_off : goal.run-requires-clause-cut_off
run-requires-clause-cut_off g c = balanced-cut-off

pub run-requires-clause-fits : goal.run-requires-clause-fits
run-requires-clause-fits g c = balanced-report-fits
