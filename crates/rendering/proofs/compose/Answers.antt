-- `compose`: the report, or the refusal's line.
use Rattle.std.proofs.Common.{arith, rules, ◌++◌, ◌∙◌, length, ap}
use Rattle.rendering.proofs.compose.Goals as goal
