-- Sequences that antt computes: those that meet the premise of demand 3, with their counts, and the one that has U and H apart.
-- Assumes nothing.
use mathlib.Core.Path.{refl}
use Rattle.wire.specs.Numbers.{first_from, form, encode, encode_all, all_small}
use Rattle.window.specs.Words.{number_of, words_of, bit}
use Rattle.window.specs.Window.{first_clear, run_below}
use Rattle.frames.specs.Ack.{gaps_from, range_numbers}
use Rattle.seen.specs.Received.{seen_consistent, number_refusal, seen_after, confirmed_after, first_missing}
use Rattle.receiver.specs.Record.{limits_rule, delay_rule, pending_consistent, agreed_consistent, consistent}
use Rattle.receiver.specs.Packet.{packet_refusal, pending_after, out_of_order, gap_reached, order, congestion, first_cause, cause_after, packet_after, packet_call}
use Rattle.receiver.specs.Calls.{opened, open_refusal, open_call, immediate_refusal, immediate_call, timer_due, timer_refusal, timer_call, agreed_after, threshold_verdict, threshold_call}
use Rattle.ack.specs.Ack.{ranges_below, frame}
use Rattle.receiver.specs.Write.{write_refusal, after_write}
use Rattle.receiver.specs.Confirm.{confirm_refusal, confirm_call}
use Rattle.ecn.specs.Totals.{totals_consistent, totals_after}
use Rattle.promises.specs.Sequence.{step, in_order, after}
use Rattle.promises.specs.Accepted.{accepted_of, packets, frames}
use Rattle.promises.specs.Told.{no_frame, largest, eliciting_of, among, last_mark}
use Rattle.promises.specs.Passed.{count, passed, passed_over}
use Rattle.promises.specs.Counted.{C, smallest, how_many}
use Rattle.promises.specs.Bound.{only_due}
use Rattle.promises.specs.Order.{Apart}
use Rattle.promises.specs.Reached.{each_written, Reached}

pub reached : Reached
unfolding first_from form encode encode_all gaps_from range_numbers number_of words_of bit first_clear run_below limits_rule delay_rule seen_consistent pending_consistent agreed_consistent totals_consistent totals_after all_small consistent number_refusal packet_refusal seen_after pending_after first_missing out_of_order gap_reached order congestion first_cause cause_after packet_after packet_call opened open_refusal open_call immediate_refusal immediate_call timer_due timer_refusal timer_call agreed_after threshold_verdict threshold_call ranges_below frame write_refusal after_write confirmed_after confirm_refusal confirm_call step in_order after accepted_of packets frames largest eliciting_of among last_mark no_frame count passed passed_over C smallest how_many only_due each_written
reached =
    record {
      many_writes = record { due = refl; written = refl; most = refl };
      every_cause = record { due = refl; written = refl; most = refl };
      each_mark = record { due = refl; written = refl; most = refl };
      some_refused = record { due = refl; written = refl; most = refl };
      refused_opening = record { due = refl; written = refl; most = refl };
      raised_r = record { due = refl; eliciting = refl; passed = refl; frames = refl; others = refl; written = refl };
      confirmed = record { due = refl; eliciting = refl; passed = refl; frames = refl; others = refl; written = refl };
    }

pub two-apart : Apart
unfolding first_from form encode encode_all gaps_from range_numbers number_of words_of bit first_clear run_below limits_rule seen_consistent pending_consistent agreed_consistent totals_consistent totals_after all_small consistent number_refusal packet_refusal seen_after pending_after first_missing out_of_order gap_reached order congestion first_cause cause_after packet_after packet_call opened open_refusal open_call ranges_below frame write_refusal after_write step after delay_rule
two-apart = record { unacknowledged = refl; highest = refl }
