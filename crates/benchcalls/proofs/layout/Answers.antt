-- `layout`: by how the trial was laid out.
use Rattle.benchcalls.specs.Calls.{layout_numbers}
use Rattle.benchcalls.proofs.Layouts.{numbers-of}
use Rattle.benchcalls.proofs.layout.Goals as goal

pub returns-in-Paired : goal.returns-in-Paired
unfolding layout_numbers
returns-in-Paired c = numbers-of _ _ c.in-Paired.is

pub returns-in-Unpaired : goal.returns-in-Unpaired
unfolding layout_numbers
returns-in-Unpaired c = numbers-of _ _ c.in-Unpaired.is
