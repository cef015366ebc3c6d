-- The settled cases of No loss kept back: antt computes them.
-- Assumes nothing.
use mathlib.Core.Path.{refl}
use Rattle.wire.specs.Numbers.{first_from, form, encode, encode_all, all_small}
use Rattle.window.specs.Words.{number_of, words_of, bit}
use Rattle.window.specs.Window.{first_clear, run_below}
use Rattle.frames.specs.Ack.{gaps_from, range_numbers}
use Rattle.seen.specs.Received.{seen_consistent, number_refusal, seen_after, confirmed_after, first_missing}
use Rattle.receiver.specs.Record.{limits_rule, delay_rule, pending_consistent, agreed_consistent, consistent}
use Rattle.receiver.specs.Packet.{packet_refusal, pending_after, out_of_order, gap_reached, order, congestion, first_cause, cause_after, packet_after, packet_call}
use Rattle.receiver.specs.Calls.{opened, open_refusal, open_call, immediate_refusal, immediate_call, timer_due, timer_refusal, timer_call, agreed_after, threshold_verdict, threshold_call}
use Rattle.ack.specs.Ack.{ranges_below, frame}
use Rattle.receiver.specs.Write.{write_refusal, after_write}
use Rattle.receiver.specs.Confirm.{confirm_refusal, confirm_call}
use Rattle.ecn.specs.Totals.{totals_consistent, totals_after}
use Rattle.promises.specs.Sequence.{step, in_order, after}
use Rattle.promises.specs.Accepted.{accepted_of, packets, frames}
use Rattle.promises.specs.Told.{no_frame, largest, eliciting_of, among, last_mark, largest_sequence, in_force, confirmed_of}
use Rattle.promises.specs.NoLoss.{r_in_force, same_r, under_same_r, written_up_to}
use Rattle.promises.specs.NoLossCases.{Cases}

pub cases : Cases
unfolding first_from form encode encode_all gaps_from range_numbers number_of words_of bit first_clear run_below limits_rule delay_rule seen_consistent pending_consistent agreed_consistent totals_consistent totals_after all_small consistent number_refusal packet_refusal seen_after pending_after first_missing out_of_order gap_reached order congestion first_cause cause_after packet_after packet_call opened open_refusal open_call immediate_refusal immediate_call timer_due timer_refusal timer_call agreed_after threshold_verdict threshold_call ranges_below frame write_refusal after_write confirmed_after confirm_refusal confirm_call step in_order after accepted_of packets frames largest eliciting_of among last_mark no_frame largest_sequence in_force confirmed_of r_in_force same_r under_same_r written_up_to
cases =
    record {
      due = record { missing = refl; window = refl; below = refl; in_force = refl; since = refl; cause = refl; written = refl };
      behind = record { missing = refl; window = refl; below = refl; in_force = refl; since = refl; cause = refl; written = refl };
      either = record { missing = refl; window = refl; below = refl; in_force = refl; since = refl; cause = refl; written = refl };
      repeated = record { missing = refl; window = refl; below = refl; in_force = refl; since = refl; cause = refl; written = refl };
      confirmed = record { missing = refl; window = refl; below = refl; in_force = refl; since = refl; cause = refl; written = refl };
      above = record { missing = refl; window = refl; below = refl; in_force = refl; since = refl; cause = refl; written = refl };
      changed = record { missing = refl; window = refl; below = refl; in_force = refl; since = refl; cause = refl; written = refl };
      never = record { missing = refl; window = refl; below = refl; in_force = refl; since = refl; cause = refl; written = refl };
      one = record { missing = refl; window = refl; below = refl; in_force = refl; since = refl; cause = refl; written = refl };
      plain = record { missing = refl; window = refl; below = refl; in_force = refl; since = refl; cause = refl; written = refl };
    }
