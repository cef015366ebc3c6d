-- The settled examples P1 to P10: each is cited from the crate where its definitions stand, and antt computes it there.
-- Assumes nothing.
use Rattle.wire.proofs.Examples as numbers
use Rattle.frames.proofs.Examples as frames
use Rattle.receiver.proofs.Examples as arrivals
use Rattle.receiver.proofs.Settled as written
use Rattle.report.proofs.Examples as reports
use Rattle.promises.specs.Settled.{Settled}

pub settled : Settled
settled =
    record {
      P1 = (frames.examples).P1;
      P2 = (numbers.examples).P2;
      P3 = (numbers.examples).P3;
      P4 = (arrivals.arrivals).P4;
      P5 = (arrivals.arrivals).P5;
      P6 = (written.frames).P6;
      P6-answer = (written.frames).P6-answer;
      P7-five = (written.frames).P7-five;
      P7-five-answer = (written.frames).P7-five-answer;
      P7-six = (written.frames).P7-six;
      P7-six-answer = (written.frames).P7-six-answer;
      P7-four = (written.frames).P7-four;
      P7-four-answer = (written.frames).P7-four-answer;
      P8-in = (arrivals.arrivals).P8-in;
      P8-below = (arrivals.arrivals).P8-below;
      P9 = (reports.examples).P9.1;
      P10-two = (reports.examples).P10-two.0;
      P10-one = (reports.examples).P10-one.0;
      P10-none = (reports.examples).P10-none.0;
      P10-refused = (reports.examples).P10-refused.0;
    }
