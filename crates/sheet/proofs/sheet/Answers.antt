-- `sheet`: the text for the file's figures is its sheet.
use Rattle.std.proofs.Common.{◌∙◌, ◌≤◌, ap, sym, subst, IfOk}
use Rattle.limits.specs.Limits.{offers_most}
use Rattle.text.proofs.Rendered.{text-by}
use Rattle.sheet.specs.Internal.{text_of}
use Rattle.sheet.proofs.FileTexts.{text-is, few-offers}
use Rattle.sheet.proofs.Lengths.{sheet-fits}
use Rattle.sheet.proofs.sheet.Goals as goal

pub compose-requires-clause-few : goal.compose-requires-clause-few
compose-requires-clause-few c = subst (λ r. IfOk r (λ f. f.trial.shape.offers ≤ offers_most)) (sym c.file_figures.ensures) (few-offers c.args.file.now)

pub compose-requires-clause-room : goal.compose-requires-clause-room
compose-requires-clause-room c = rw (c.file_figures.ensures, text-is c.args.file.now) (sheet-fits c.args.file.now)

pub returns : goal.returns
returns c =
    let is = c.as_bytes.ensures.value ∙ c.deref.ensures.0 ∙ c.compose.ensures ∙ ap text_of c.file_figures.ensures ∙ text-is c.args.file.now in
    let given = text-by c.args.out.now is (c.give.ensures.value, c.give.ensures.out_after) in
    record { value = given.0; out_after = given.1 }
