-- The calls that only the benchmark makes: what is left in each lent place. Definitions only.
-- A call answers 0 or the refusal number, and a refused one changes no lent place: each is `afterwards checks new old`.
--   layout_numbers d         how a trial was laid out: the kind of its shape word, pairs or shops, and the treated shops, 0 for pairs
--   design_from kind units treated    the layout of these numbers: of shops where the kind is not 2
--   numbers_of t             a, b, k, offers and the layout of a trial
--   codes_of t, digits_of t, figures_of t   its arrays
--   trial_from ns codes digits figures     the trial of these numbers and arrays
--   logged_in ms             records, field by field
--   steps_in f, criticals_in f, bar_rows_in f, bar_offers_in f, counts_in f, verdicts_of f  parts of a full run: how many steps, critical values, the rows and the
--                                              offers that set them, counts, verdicts as numbers
--   from_file part bytes old             a place after `bench_read`: a part of the file's trial
--   length_written t places old          the length's place after `bench_write` into so many bytes
--   length_rendered bytes places old     the length's place after `bench_report` into so many bytes
--   from_table part t .. places old      a place after `bench_table` with so many work places: a part of the table's full run
use Rattle.std.specs.Prelude.{ℕ, List, [], ◌∷◌, map, cond, eqb, length, get_or, ℤ, Float}
use Rattle.refusals.specs.Answers.{answer, afterwards}
use Rattle.runs.specs.FullRuns.{accepted_run}
use Rattle.runs.specs.Tables.{table_run}
use Rattle.runs.specs.declared.Record.{Record}
use Rattle.runs.specs.declared.FullRun.{FullRun}
use Rattle.stepdown.specs.Refusals.{table_checks, table_run_checks}
use Rattle.verdicts.specs.Verdicts.{verdict_byte}
use Rattle.trial.specs.declared.Design.{Design}
use Rattle.trial.specs.declared.Design.TheVariants.{Paired, Unpaired}
use Rattle.trial.specs.declared.Trial.{Trial}
use Rattle.words.specs.Words.{words_of, paired_kind, unpaired_kind}
use Rattle.trialfile.specs.Files.{trial_of, file_checks}
use Rattle.trialwriter.specs.Writings.{write_checks, file_length}
use Rattle.rendering.specs.Reports.{report_of}
use Rattle.rendering.specs.Renderings.{render_checks}
use Rattle.benchcalls.specs.declared.Logged.{Logged}

-- ---- a trial in parts

unfoldable pub layout_numbers : Design → List ℕ
layout_numbers (Paired pairs) = paired_kind ∷ pairs ∷ 0 ∷ []
layout_numbers (Unpaired shops treated) = unpaired_kind ∷ shops ∷ treated ∷ []

unfoldable pub design_from : ℕ → ℕ → ℕ → Design
design_from kind units treated = cond (eqb kind paired_kind) (Paired units) (Unpaired units treated)

abbrev pub numbers_of : Trial → List ℕ
numbers_of t = t.level.a ∷ t.level.b ∷ t.shape.k ∷ t.shape.offers ∷ layout_numbers t.shape.design

abbrev pub codes_of : Trial → List ℕ
codes_of t = t.labels.codes

abbrev pub digits_of : Trial → List ℕ
digits_of t = t.labels.digits

abbrev pub figures_of : Trial → List ℤ
figures_of t = t.figures

abbrev pub trial_from : List ℕ → List ℕ → List ℕ → List ℤ → Trial
trial_from ns codes digits figures = record {
  level = record { a = get_or ns 0 0; b = get_or ns 1 0 };
  shape = record { k = get_or ns 2 0; offers = get_or ns 3 0; design = design_from (get_or ns 4 0) (get_or ns 5 0) (get_or ns 6 0) };
  labels = record { codes = codes; digits = digits };
  figures = figures;
}

-- ---- a full run in parts

abbrev pub logged_in : List Record → Logged
logged_in ms = record { criticals = map (λ m. m.critical) ms; rows = map (λ m. m.row) ms; offers = map (λ m. m.offer) ms }

abbrev pub steps_in : FullRun → ℕ
steps_in f = f.steps

abbrev pub criticals_in : FullRun → List Float
criticals_in f = (logged_in f.records).criticals

abbrev pub bar_rows_in : FullRun → List ℕ
bar_rows_in f = (logged_in f.records).rows

abbrev pub bar_offers_in : FullRun → List ℕ
bar_offers_in f = (logged_in f.records).offers

abbrev pub counts_in : FullRun → List ℕ
counts_in f = f.counts

abbrev pub verdicts_of : FullRun → List ℕ
verdicts_of f = map verdict_byte f.verdicts

-- ---- the lent places

unfoldable pub from_file : {A : Type 0} → (Trial → A) → List ℕ → A → A
unfolding answer file_checks trial_of
from_file part bytes old = afterwards (file_checks bytes) (part (trial_of (words_of bytes))) old

unfoldable pub length_written : Trial → ℕ → ℕ → ℕ
unfolding answer write_checks
length_written t places old = afterwards (write_checks t places) (file_length t) old

unfoldable pub length_rendered : List ℕ → ℕ → ℕ → ℕ
unfolding answer report_of
length_rendered bytes places old = afterwards (render_checks bytes places) (length (report_of bytes)) old

unfoldable pub from_table : {A : Type 0} → (FullRun → A) → List Float → ℕ → ℕ → ℕ → ℕ → ℕ → ℕ → ℕ → A → A
unfolding answer table_checks accepted_run table_run
from_table part t rows columns k a b observed places old = afterwards (table_run_checks t rows columns k a b observed places) (part (accepted_run (table_run t rows columns k a b observed))) old
