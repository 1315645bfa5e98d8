-- The size of a trial's table, and the table in a lent buffer. Definitions only.
--   full_size t                 the rows and columns of the table and the offers that take part
--   size_of t                    what asking for it answers: that, or what the record is turned away for
--   table_call_checks t places  of writing the table into so many places: what the record is turned away for, then 12
--   table_call_refusal t places  the number of the first that holds, or 0
--   table_buffer t buf          the buffer after the call: the table in its first places, or unchanged where the call is refused
use Rattle.std.specs.Prelude.{ℕ, ◌*◌, List, ◌++◌, length, Float, Result}
use Rattle.refusals.specs.Answers.{Checks, answer, outcome, first_refusal, afterwards}
use Rattle.refusals.specs.declared.refusal.Refusal.{Refusal}
use Rattle.refusals.specs.Buffers.{too_short, written}
use Rattle.trial.specs.Exchange.{row_total, table_of}
use Rattle.trial.specs.Aside.{live_mask}
use Rattle.trial.specs.Refusals.{trial_checks}
use Rattle.trial.specs.declared.TableSize.{TableSize}
use Rattle.trial.specs.declared.Trial.{Trial}

abbrev pub full_size : Trial → TableSize
full_size t = record { rows = row_total t; columns = t.shape.offers; live = live_mask t }

unfoldable pub size_of : Trial → Result TableSize Refusal
unfolding trial_checks row_total live_mask
size_of t = outcome (trial_checks t) (full_size t)

unfoldable pub table_call_checks : Trial → ℕ → Checks
unfolding trial_checks row_total
table_call_checks t places = trial_checks t ++ too_short places (row_total t * t.shape.offers)

unfoldable pub table_call_refusal : Trial → ℕ → ℕ
unfolding first_refusal table_call_checks
table_call_refusal t places = first_refusal (table_call_checks t places)

unfoldable pub table_buffer : Trial → List Float → List Float
unfolding answer table_call_checks table_of
table_buffer t buf = afterwards (table_call_checks t (length buf)) (written (table_of t) buf) buf
