-- P4, P5 and P8 hold on the definitions: antt computes them.
-- Assumes nothing.
use mathlib.Core.Path.{refl}
use Rattle.window.specs.Words.{number_of, words_of, bit}
use Rattle.window.specs.Window.{first_clear, run_below}
use Rattle.seen.specs.Received.{seen_consistent, number_refusal, seen_after, first_missing}
use Rattle.ecn.specs.Totals.{totals_consistent, totals_after}
use Rattle.receiver.specs.Record.{limits_rule, delay_rule, pending_consistent, agreed_consistent, consistent}
use Rattle.receiver.specs.Packet.{packet_refusal, pending_after, out_of_order, gap_reached, order, congestion, first_cause, cause_after, packet_after, packet_call}
use Rattle.receiver.specs.Calls.{opened}
use Rattle.receiver.specs.Write.{after_write, write_refusal, write_answer}
use Rattle.ack.specs.Ack.{ranges_below, frame}
use Rattle.frames.specs.Ack.{gaps_from, range_numbers}
use Rattle.wire.specs.Numbers.{first_from, form, encode, encode_all, all_small}
use Rattle.receiver.specs.Examples.{dues, Arrivals}

pub arrivals : Arrivals
unfolding dues opened packet_call packet_refusal number_refusal consistent seen_consistent pending_consistent agreed_consistent totals_consistent totals_after all_small limits_rule delay_rule packet_after seen_after pending_after cause_after first_cause order out_of_order gap_reached first_missing congestion after_write write_answer write_refusal frame ranges_below run_below range_numbers gaps_from encode_all encode form first_from number_of words_of bit first_clear
arrivals = record { P4 = refl; P5 = refl; P8-in = refl; P8-below = refl }
