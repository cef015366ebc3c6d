-- The settled cases of a confirmation hold on the definitions: antt computes them.
-- Assumes nothing.
use mathlib.Core.Path.{refl}
use Rattle.wire.specs.Numbers.{first_from, form, encode, encode_all, all_small}
use Rattle.window.specs.Words.{number_of, words_of, bit}
use Rattle.window.specs.Window.{first_clear, run_below}
use Rattle.frames.specs.Ack.{gaps_from, range_numbers}
use Rattle.seen.specs.Received.{seen_consistent, number_refusal, seen_after, confirmed_after, first_missing}
use Rattle.ecn.specs.Totals.{totals_consistent, totals_after}
use Rattle.receiver.specs.Record.{limits_rule, delay_rule, pending_consistent, agreed_consistent, consistent}
use Rattle.receiver.specs.Packet.{packet_refusal, pending_after, out_of_order, gap_reached, order, congestion, first_cause, cause_after, packet_after, packet_call}
use Rattle.receiver.specs.Calls.{opened}
use Rattle.ack.specs.Ack.{ranges_below, frame, largest_where, ranges_kept}
use Rattle.receiver.specs.Write.{write_refusal, after_write, write_answer, write_bytes}
use Rattle.receiver.specs.Settled.{arrived}
use Rattle.receiver.specs.Confirm.{confirm_refusal, confirm_call}
use Rattle.receiver.specs.Confirmed.{Confirmed}

pub confirmed : Confirmed
unfolding arrived opened packet_call packet_refusal number_refusal consistent seen_consistent pending_consistent agreed_consistent totals_consistent totals_after all_small limits_rule delay_rule packet_after seen_after pending_after cause_after first_cause order out_of_order gap_reached first_missing congestion number_of words_of bit first_clear run_below write_bytes write_answer write_refusal after_write ranges_kept largest_where frame ranges_below range_numbers gaps_from encode_all encode form first_from confirmed_after confirm_refusal confirm_call
confirmed =
    record {
      below = refl;
      missing = refl;
      from = refl;
      whole = refl;
      shorter = refl;
      cut = refl;
      own = refl;
      smaller = refl;
      large = refl;
      nothing = refl;
      absent = refl;
      above = refl;
    }
