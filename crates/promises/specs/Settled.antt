-- Settled: the examples P1 to P10 of document 01, on the definitions, as one list under one statement.
use Rattle.std.specs.Prelude.{◌≡◌, [], ◌∷◌, Err, replicate}
use Rattle.wire.specs.Numbers.{width_of}
use Rattle.wire.specs.declared.Refusal.TheVariants.{NoRoom}
use Rattle.frames.specs.Frequency.{thresholds, read_frequency}
use Rattle.ecn.specs.declared.Kind.TheVariants.{Plain}
use Rattle.receiver.specs.Write.{write_bytes}
use Rattle.receiver.specs.Examples.{started, arrival, dues}
use Rattle.receiver.specs.Settled.{five, at_once, in_room}
use Rattle.entries.specs.Limits.{most_entries}
use Rattle.report.specs.Writer.{done, answer_by as report_answer, bytes_by as report_bytes}
use Rattle.report.specs.Examples.{sample, three}

pub record Settled : Type 0 where
  -- "40 af 05 0a 80 00 61 a8 03 is sequence 5, T 10, delay 25,000, R 3"
  pub P1 : read_frequency (0x40 ∷ 0xaf ∷ 0x05 ∷ 0x0a ∷ 0x80 ∷ 0x00 ∷ 0x61 ∷ 0xa8 ∷ 0x03 ∷ []) ≡ thresholds 5 10 25000 3 9
  -- "63 takes one byte, 64 two"
  pub P2 : width_of 63 ≡ 1
  pub P3 : width_of 64 ≡ 2
  -- "R 3, arrivals 0, 1, 3, 4, 5, 8, 9, 10, T large, written when due: due at 5, 9, 10 only"
  pub P4 : dues (started 3) (0 ∷ 1 ∷ 3 ∷ 4 ∷ 5 ∷ 8 ∷ 9 ∷ 10 ∷ []) ≡ 5 ∷ 9 ∷ 10 ∷ []
  -- "R 5, arrivals 0, 1, 3, 5, 6, 7, 8: due at 7 only"
  pub P5 : dues (started 5) (0 ∷ 1 ∷ 3 ∷ 5 ∷ 6 ∷ 7 ∷ 8 ∷ []) ≡ 7 ∷ []
  -- "0, 1, 3, 4, 5 received, no delay: 02 05 00 01 02 00 01"
  pub P6 : write_bytes five at_once Plain (replicate 7 0) ≡ 0x02 ∷ 0x05 ∷ 0x00 ∷ 0x01 ∷ 0x02 ∷ 0x00 ∷ 0x01 ∷ []
  pub P6-answer : ((in_room 7).result ≡ 0) × ((in_room 7).length ≡ 7)
  -- "the same in room 5 or 6: 02 05 00 00 02; room 4: refusal 9"
  pub P7-five : write_bytes five at_once Plain (replicate 5 0) ≡ 0x02 ∷ 0x05 ∷ 0x00 ∷ 0x00 ∷ 0x02 ∷ []
  pub P7-five-answer : ((in_room 5).result ≡ 0) × ((in_room 5).length ≡ 5)
  pub P7-six : write_bytes five at_once Plain (replicate 6 0xff) ≡ 0x02 ∷ 0x05 ∷ 0x00 ∷ 0x00 ∷ 0x02 ∷ 0xff ∷ []
  pub P7-six-answer : ((in_room 6).result ≡ 0) × ((in_room 6).length ≡ 5)
  pub P7-four : (in_room 4).result ≡ 9
  pub P7-four-answer : ((in_room 4).length ≡ 0) × (write_bytes five at_once Plain (replicate 4 0) ≡ replicate 4 0)
  -- "at L 1,023 number 0 is in the window; at 1,024 it gives 7"
  pub P8-in : (arrival (arrival (started 3) 1023).next 0).result ≡ 0
  pub P8-below : (arrival (arrival (started 3) 1024).next 0).result ≡ 7
  -- "timestamp 1,000,000, interval 100,000, counts 3, 1, 1, 1, average -2, no metrics, no entries: 80 0f 42 40 80 01 86 a0 03 01 01 01 03 00 00"
  pub P9 : report_bytes 1 (sample 0) [] most_entries (replicate 15 0)
      ≡ 0x80 ∷ 0x0f ∷ 0x42 ∷ 0x40 ∷ 0x80 ∷ 0x01 ∷ 0x86 ∷ 0xa0 ∷ 0x03 ∷ 0x01 ∷ 0x01 ∷ 0x01 ∷ 0x03 ∷ 0x00 ∷ 0x00 ∷ []
  -- "the same with three records: room 47 keeps two, 46 one, 15 none, 14 gives 9"
  pub P10-two : report_answer 1 (sample 0) three most_entries 47 ≡ done 47 2
  pub P10-one : report_answer 1 (sample 0) three most_entries 46 ≡ done 31 1
  pub P10-none : report_answer 1 (sample 0) three most_entries 15 ≡ done 15 0
  pub P10-refused : report_answer 1 (sample 0) three most_entries 14 ≡ Err NoRoom
