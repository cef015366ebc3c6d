-- The lines are those of the format: antt computes them.
-- Assumes nothing.
use mathlib.Core.Path.{refl}
use Rattle.decimal.specs.Decimal.{decimal, places_of, places_from}
use Rattle.window.specs.Words.{number_of, words_of, bit}
use Rattle.wire.specs.Numbers.{all_small}
use Rattle.seen.specs.Received.{seen_consistent}
use Rattle.ecn.specs.Totals.{totals_consistent}
use Rattle.receiver.specs.Record.{limits_rule, delay_rule, pending_consistent, agreed_consistent, consistent}
use Rattle.receiver.specs.Calls.{opened, open_refusal, open_call, agreed_after, threshold_verdict, threshold_call}
use Rattle.receiver.specs.Write.{write_refusal}
use Rattle.call_log.specs.Calls.{noting, noting_opening, step, frame_of}
use Rattle.call_log.specs.Line.{mark_text, counts_text, time_text, call_form, call_values, call_text, answer_form, answer_values, answer_text, is_write, frame_form, frame_text, now_of, agreed_text, seen_text, due_text, line_of}
use Rattle.call_log.specs.Examples.{Lines, Given}

pub lines : Lines
unfolding decimal places_of places_from mark_text counts_text time_text call_form call_values call_text answer_form answer_values answer_text is_write frame_form frame_text agreed_text seen_text due_text
lines = record { opening = refl; packet = refl; timer = refl; threshold = refl; immediate = refl; confirm = refl; write = refl }

pub given : Given
unfolding decimal places_of places_from mark_text counts_text time_text call_form call_values call_text answer_form answer_values answer_text is_write frame_form frame_text now_of agreed_text seen_text due_text line_of step frame_of noting noting_opening opened open_refusal open_call agreed_after threshold_verdict threshold_call write_refusal consistent seen_consistent pending_consistent agreed_consistent totals_consistent all_small limits_rule delay_rule number_of words_of bit
given = record { stale = refl; refused = refl; opening = refl }
