-- The sizes that the promises speak of, each named once; src/lib.rt has the same for the code, and a proof fails where the two differ. Definitions only.
--   offers_most, pairs_most, shops_most  the largest trial
--   units_most                     the most figures of an offer: of shops without partners
--   tolerance_most                 the largest k
--   digits_most                    the most printed digits of a code
--   difference_most                the largest difference of a pair, or figure of a shop, of either sign
--   level_most                     the largest b of a level a/b
--   figures_most                   the figures of the largest trial
--   trial_rows_most, trial_table_most  the rows and the places of a trial's largest table
--   table_rows_most, columns_most  the largest lent table
--   steps_most                     the most steps of a run
--   longest_file                   the longest file, in bytes
--   input_room                     what a program reads at most: one byte more, so that a longer input is seen to be longer
--   head_most, step_line_most, offer_line_most, end_most  room for each kind of line of a report
--   steps_end                      room for a report's first line and its step lines
--   longest_report                 room for every report
--   sheet_line_most                room for the line of an offer on a buyers' sheet
--   longest_sheet                  room for every sheet
use Rattle.std.specs.Prelude.{ℕ, ◌+◌, ◌*◌}

-- ---- trials

abbrev pub offers_most : ℕ
offers_most = 16

abbrev pub pairs_most : ℕ
pairs_most = 9

abbrev pub shops_most : ℕ
shops_most = 10

abbrev pub units_most : ℕ
units_most = shops_most

abbrev pub tolerance_most : ℕ
tolerance_most = 4

abbrev pub digits_most : ℕ
digits_most = 7

abbrev pub difference_most : ℕ
difference_most = 134217727

abbrev pub level_most : ℕ
level_most = 16383

abbrev pub figures_most : ℕ
figures_most = offers_most * units_most

-- 2 ^ pairs_most; choices of shops are at most 252
abbrev pub trial_rows_most : ℕ
trial_rows_most = 512

abbrev pub trial_table_most : ℕ
trial_table_most = trial_rows_most * offers_most

-- ---- tables

abbrev pub table_rows_most : ℕ
table_rows_most = 4096

abbrev pub columns_most : ℕ
columns_most = 32

abbrev pub steps_most : ℕ
steps_most = 32

-- ---- files: 716 bytes, a level, a shape, offers, figures and an end

abbrev pub longest_file : ℕ
longest_file = 4 * (2 + offers_most + figures_most + 1)

abbrev pub input_room : ℕ
input_room = longest_file + 1

-- ---- reports

abbrev pub head_most : ℕ
head_most = 128

abbrev pub step_line_most : ℕ
step_line_most = digits_most + 70

abbrev pub offer_line_most : ℕ
offer_line_most = digits_most + 52

abbrev pub end_most : ℕ
end_most = 25

abbrev pub steps_end : ℕ
steps_end = head_most + step_line_most * steps_most

abbrev pub longest_report : ℕ
longest_report = steps_end + offer_line_most * offers_most + end_most

-- ---- sheets

abbrev pub sheet_line_most : ℕ
sheet_line_most = digits_most + 22

abbrev pub longest_sheet : ℕ
longest_sheet = sheet_line_most * offers_most + end_most
