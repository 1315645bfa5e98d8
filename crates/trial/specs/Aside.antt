-- Offers that are set aside. Definitions only.
--   live_offers t    which offers take part: those that have been tested
--   live_mask t      the same as a mask: bit i says that offer i (from 0) takes part
use Rattle.std.specs.Prelude.{ℕ, not, map}
use Rattle.columns.specs.Columns.{Columns, mask_of}
use Rattle.trial.specs.Designs.{untested}
use Rattle.trial.specs.Exchange.{by_offer}
use Rattle.trial.specs.declared.Trial.{Trial}

unfoldable pub live_offers : Trial → Columns
unfolding by_offer untested
live_offers t = map (λ xs. not (untested t.shape.design xs)) (by_offer t)

unfoldable pub live_mask : Trial → ℕ
unfolding mask_of live_offers
live_mask t = mask_of (live_offers t)
