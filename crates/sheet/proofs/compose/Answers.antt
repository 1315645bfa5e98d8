-- `compose`: the sheet, or the refusal's line.
use Rattle.sheet.proofs.compose.Goals as goal
