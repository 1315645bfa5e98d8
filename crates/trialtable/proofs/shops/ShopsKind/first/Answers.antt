-- `Shops::first` meets its contract.
use mathlib.Core.Path.{◌≡◌, ap, ◌∙◌}
use native.Mathlib.Omega.{arith}
use lib.ListN.{length}
use lib.Ieee.{binary64, of_int}
use Rattle.trial.specs.Designs.{units_of}
use Rattle.trialtable.proofs.Cases.{first-shops}
use Rattle.trialtable.proofs.Chosen.{shops-known}
use Rattle.trialtable.proofs.shops.ShopsKind.first.Goals as goal

pub first_contrast-requires : goal.first_contrast-requires
unfolding units_of
first_contrast-requires c =
    let l : length c.args.figures.now ≡ c.args.self.shops = c.requires in
    let s = shops-known _ _ c.args.self.accepted in
    (omega (arith, l, s), omega (arith, l, s))

pub returns : goal.returns
returns c =
    let a = c.args.self in
    let s = shops-known _ _ c.args.self.accepted in
    c.first_contrast.ensures ∙ ap (of_int binary64) (first-shops a.shops a.treated _ (omega (arith, s)) c.requires)
