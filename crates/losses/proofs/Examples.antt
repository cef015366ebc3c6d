-- The settled cases of the loss list: antt computes them.
-- Assumes nothing.
use mathlib.Core.Path.{refl}
use Rattle.wire.specs.Fields.{read_fixed}
use Rattle.wire.specs.Numbers.{first_from, read_form, read_number}
use Rattle.window.specs.Words.{bit}
use Rattle.frames.specs.Ack.{ranges_from, read_tail}
use Rattle.marks.specs.Marks.{number_at, each, bits_of, listed, none_in}
use Rattle.sent.specs.Record.{record_of, consistent}
use Rattle.sent.specs.Calls.{send_refusal, with_sent}
use Rattle.sent.specs.Heard.{within, newly_in, hear_ranges, hear}
use Rattle.losses.specs.Sequence.{after}
use Rattle.losses.specs.Told.{sent_told, end_told, told, times}
use Rattle.losses.specs.Answers.{would_list}
use Rattle.losses.specs.Examples.{Examples}

pub examples : Examples
unfolding read_fixed first_from read_form read_number bit ranges_from read_tail number_at each bits_of listed none_in record_of consistent send_refusal with_sent within newly_in hear_ranges hear after sent_told end_told told times would_list
examples = record {
  by_three = refl;
  no-sooner = refl;
  lists-lost = refl;
  lists-acked = refl;
  was-lost = refl;
  late = refl;
  late-listed = refl;
  not-again = refl;
  sixteen = refl;
  nine = refl;
  nine-lost = refl;
  room = refl;
  would-list = refl;
}
