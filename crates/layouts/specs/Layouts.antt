-- The one layout of a trial file: level, shape, offers, figures, end. Places count words from 0. Definitions only.
--   level_at, shape_at, offers_at   the places of the level, the shape and the first offer
--   words_per_offer        how many words an offer has
--   layout_of s             where the offers, the figures and the end of a file of this shape stand
--   offer_at l i           the place of offer i (from 0)
--   figure_at l i          the place of figure i, offer by offer
--   word_total s           how many words a file of this shape has
use Rattle.std.specs.Prelude.{ℕ, ◌+◌, ◌*◌}
use Rattle.trial.specs.Record.{figure_count}
use Rattle.trial.specs.declared.Shape.{Shape}
use Rattle.layouts.specs.declared.Layout.{Layout}

abbrev pub level_at : ℕ
level_at = 0

abbrev pub shape_at : ℕ
shape_at = 1

abbrev pub offers_at : ℕ
offers_at = 2

abbrev pub words_per_offer : ℕ
words_per_offer = 1

unfoldable pub layout_of : Shape → Layout
unfolding figure_count
layout_of s = record { offers = offers_at; figures = offers_at + s.offers * words_per_offer; end = offers_at + s.offers * words_per_offer + figure_count s }

abbrev pub offer_at : Layout → ℕ → ℕ
offer_at l i = l.offers + i * words_per_offer

abbrev pub figure_at : Layout → ℕ → ℕ
figure_at l i = l.figures + i

abbrev pub word_total : Shape → ℕ
word_total s = (layout_of s).end + 1
