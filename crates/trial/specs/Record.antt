-- The record and what of it is used. Places that the counts don't use hold zero, and nothing looks at them. Definitions only.
--   ArrayLengths t     what every value of the record's type has: places for the largest trial
--   figure_count s     how many figures a trial of this shape has
--   Setting            all of a trial but its figures: level, shape, codes and printed digits
--   Contents           a trial with nothing else: its setting and its figures
--   setting_of t, figures_of t, contents t    those of a record
--   filled c           the record of these contents: unused places hold zero
--   blank              the record that holds nothing but zeros
--   trimmed t          the record with zero in every unused place
--   Same t u           two records are the same trial
--   Keeps t u          two trials agree in all but their figures
use Rattle.std.specs.Prelude.{ℕ, ◌*◌, ◌≡◌, List, [], length, take, ℤ, pos}
use Rattle.limits.specs.Limits.{offers_most, figures_most}
use Rattle.order.specs.Lists.{padded}
use Rattle.trial.specs.Designs.{units_of}
use Rattle.trial.specs.declared.Design.TheVariants.{Paired}
use Rattle.trial.specs.declared.Level.{Level}
use Rattle.trial.specs.declared.Shape.{Shape}
use Rattle.trial.specs.declared.Trial.{Trial}

pub record ArrayLengths (t : Trial) : Type 0 where
  pub codes-length : length t.labels.codes ≡ offers_most
  pub digits-length : length t.labels.digits ≡ offers_most
  pub figures-length : length t.figures ≡ figures_most

unfoldable pub figure_count : Shape → ℕ
unfolding units_of
figure_count s = s.offers * units_of s.design

pub record Setting : Type 0 where
  pub level : Level
  pub shape : Shape
  pub codes : List ℕ
  pub digits : List ℕ

pub record Contents : Type 0 where
  pub setting : Setting
  pub figures : List ℤ

abbrev pub setting_of : Trial → Setting
setting_of t = record { level = t.level; shape = t.shape; codes = take t.shape.offers t.labels.codes; digits = take t.shape.offers t.labels.digits }

abbrev pub figures_of : Trial → List ℤ
figures_of t = take (figure_count t.shape) t.figures

abbrev pub contents : Trial → Contents
contents t = record { setting = setting_of t; figures = figures_of t }

abbrev pub filled : Contents → Trial
filled c = record {
  level = c.setting.level;
  shape = c.setting.shape;
  labels = record { codes = padded offers_most 0 c.setting.codes; digits = padded offers_most 0 c.setting.digits };
  figures = padded figures_most (pos 0) c.figures;
}

abbrev pub blank : Trial
blank = filled (record { setting = record { level = record { a = 0; b = 0 }; shape = record { k = 0; offers = 0; design = Paired 0 }; codes = []; digits = [] }; figures = [] })

unfoldable pub trimmed : Trial → Trial
trimmed t = filled (contents t)

abbrev pub Same : Trial → Trial → Type 0
Same t u = contents t ≡ contents u

abbrev pub Keeps : Trial → Trial → Type 0
Keeps t u = setting_of u ≡ setting_of t
