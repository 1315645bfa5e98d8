-- `run`: it reads as much as a sheet looks at, and its text buffer holds every one whole.
use Rattle.sheet.proofs.Lengths.{sheet-fits}
use Rattle.sheet.proofs.Inputs.{cut_off}
use Rattle.adjusted.proofs.run.Goals as goal

pub run-requires-clause-cut_off : goal.run-requires-clause-cut_off
run-requires-clause-cut_off g c = cut_off

pub run-requires-clause-fits : goal.run-requires-clause-fits
run-requires-clause-fits g c = sheet-fits
