-- The lines of the seven calls, byte for byte as the format has them, and three that the rules give: stale, refused, and a refused opening.
use Rattle.std.specs.Prelude.{ℕ, ◌≡◌, true, List, [], ◌∷◌}
use Rattle.texts.specs.Forms.{bytes}
use Rattle.ecn.specs.declared.Mark.TheVariants.{None}
use Rattle.ecn.specs.declared.Kind.TheVariants.{Plain}
use Rattle.receiver.specs.declared.Receiver.{Receiver}
use Rattle.receiver.specs.declared.Verdict.{Verdict}
use Rattle.receiver.specs.declared.Verdict.TheVariants.{Accepted, Stale, Refused}
use Rattle.receiver.specs.Calls.{opened}
use Rattle.receiver.specs.Given.{millis, micros}
use Rattle.call_log.specs.declared.Call.{Call}
use Rattle.call_log.specs.declared.Call.TheVariants.{Open, Packet, Timer, Threshold, Immediate, Confirm, Write}
use Rattle.call_log.specs.declared.Now.{Now}
use Rattle.call_log.specs.Calls.{step}
use Rattle.call_log.specs.Line.{line_text, line_of}

-- what is in force in the format's own example: largest is 0, so its end is 1
abbrev pub example : Now
example =
    record {
      threshold = 1000;
      reordering = 3;
      delay = record { 0 = 25000 };
      sequence = 0;
      largest = 1;
      floor = 0;
      acknowledged = 0;
      pending = 1;
      cause = 0;
    }

abbrev pub line : ℕ → Call → Verdict → List ℕ → List ℕ
line time call verdict frame = line_text (micros time) call verdict frame example []

pub record Lines : Type 0 where
  pub opening : line 0 (Open 1000 3 (millis 25) (micros 1000)) Accepted []
      ≡ bytes "{\"time\":0,\"call\":\"open\",\"threshold\":1000,\"reordering\":3,\"maximum\":25,\"minimum\":1000,\"answer\":\"accepted\",\"now\":{\"threshold\":1000,\"reordering\":3,\"delay\":25000,\"sequence\":null,\"largest\":0,\"floor\":0,\"acknowledged\":null,\"pending\":1,\"cause\":0}}\n"
  pub packet : line 1000 (Packet 0 true None) Accepted []
      ≡ bytes "{\"time\":1000,\"call\":\"packet\",\"number\":0,\"eliciting\":true,\"mark\":\"none\",\"answer\":\"accepted\",\"now\":{\"threshold\":1000,\"reordering\":3,\"delay\":25000,\"sequence\":null,\"largest\":0,\"floor\":0,\"acknowledged\":null,\"pending\":1,\"cause\":0}}\n"
  pub timer : line 26000 Timer Accepted []
      ≡ bytes "{\"time\":26000,\"call\":\"timer\",\"answer\":\"accepted\",\"now\":{\"threshold\":1000,\"reordering\":3,\"delay\":25000,\"sequence\":null,\"largest\":0,\"floor\":0,\"acknowledged\":null,\"pending\":1,\"cause\":0}}\n"
  pub threshold : line 26100 (Threshold 5 2 (micros 25000) 1) Stale []
      ≡ bytes "{\"time\":26100,\"call\":\"threshold\",\"sequence\":5,\"threshold\":2,\"delay\":25000,\"reordering\":1,\"answer\":\"stale\",\"now\":{\"threshold\":1000,\"reordering\":3,\"delay\":25000,\"sequence\":null,\"largest\":0,\"floor\":0,\"acknowledged\":null,\"pending\":1,\"cause\":0}}\n"
  pub immediate : line 26200 Immediate (Refused 8) []
      ≡ bytes "{\"time\":26200,\"call\":\"immediate\",\"answer\":\"refused 8\",\"now\":{\"threshold\":1000,\"reordering\":3,\"delay\":25000,\"sequence\":null,\"largest\":0,\"floor\":0,\"acknowledged\":null,\"pending\":1,\"cause\":0}}\n"
  pub confirm : line 26300 (Confirm 41) Accepted []
      ≡ bytes "{\"time\":26300,\"call\":\"confirm\",\"largest\":41,\"answer\":\"accepted\",\"now\":{\"threshold\":1000,\"reordering\":3,\"delay\":25000,\"sequence\":null,\"largest\":0,\"floor\":0,\"acknowledged\":null,\"pending\":1,\"cause\":0}}\n"
  pub write : line 26400 (Write Plain 1200) Accepted (2 ∷ 5 ∷ 0 ∷ 1 ∷ 2 ∷ 0 ∷ 1 ∷ [])
      ≡ bytes "{\"time\":26400,\"call\":\"write\",\"counts\":false,\"room\":1200,\"answer\":\"accepted\",\"frame\":\"02050001020001\",\"now\":{\"threshold\":1000,\"reordering\":3,\"delay\":25000,\"sequence\":null,\"largest\":0,\"floor\":0,\"acknowledged\":null,\"pending\":1,\"cause\":0}}\n"

-- a receiver that was opened with T 1,000, R 3 and 25 ms, and the same after a frame of sequence 5 with T 10, R 1 and 30,000 microseconds
abbrev pub before : Receiver
before = opened 1000 3 (millis 25) (micros 1000)

abbrev pub after : Receiver
after = (step before (micros 100) (Threshold 5 10 (micros 30000) 1)).next

pub record Given : Type 0 where
  -- the complaint's frame: sequence 5 again, with R 0; what is in force stays
  pub stale : line_of after (micros 200) (Threshold 5 2 (micros 25000) 0) []
      ≡ bytes "{\"time\":200,\"call\":\"threshold\",\"sequence\":5,\"threshold\":2,\"delay\":25000,\"reordering\":0,\"answer\":\"stale\",\"now\":{\"threshold\":10,\"reordering\":1,\"delay\":30000,\"sequence\":5,\"largest\":null,\"floor\":0,\"acknowledged\":null,\"pending\":0,\"cause\":0}}\n"
  -- nothing was received
  pub refused : line_of before (micros 300) (Write Plain 1200) []
      ≡ bytes "{\"time\":300,\"call\":\"write\",\"counts\":false,\"room\":1200,\"answer\":\"refused 8\",\"frame\":\"\",\"now\":{\"threshold\":1000,\"reordering\":3,\"delay\":25000,\"sequence\":null,\"largest\":null,\"floor\":0,\"acknowledged\":null,\"pending\":0,\"cause\":0}}\n"
  -- a maximum of 16,384 ms: the usual record is in force
  pub opening : line_of before (micros 0) (Open 1000 3 (millis 16384) (micros 1000)) []
      ≡ bytes "{\"time\":0,\"call\":\"open\",\"threshold\":1000,\"reordering\":3,\"maximum\":16384,\"minimum\":1000,\"answer\":\"refused 4\",\"now\":{\"threshold\":1,\"reordering\":1,\"delay\":25000,\"sequence\":null,\"largest\":null,\"floor\":0,\"acknowledged\":null,\"pending\":0,\"cause\":0}}\n"
