-- The cases of request No. 4 hold on the definitions: antt computes them.
-- Assumes nothing.
use mathlib.Core.Path.{refl}
use Rattle.tracker.specs.Status.{some_came, status_at, entries_from, how_many}
use Rattle.tracker.specs.Average.{arrival_times, insert, in_order, gaps_of, deviation, mean_of}
use Rattle.tracker.specs.Report.{made_refusal}
use Rattle.tracked.specs.Told.{first_told, arrival_told, end_told}
use Rattle.tracked.specs.Examples.{Examples}

pub examples : Examples
unfolding some_came status_at entries_from how_many arrival_times insert in_order gaps_of deviation mean_of made_refusal first_told arrival_told end_told
examples =
    record {
      at-the-deadline = refl;
      past-the-deadline = refl;
      ended = refl;
      larger-arrived = (refl, refl);
      at-twice = refl;
      past-twice = (refl, refl);
      far-away = refl;
      no-interval = (refl, refl);
      none-arrived = refl;
      first-by-calls = (refl, refl);
      after-a-loss = refl;
      after-an-end = refl;
      second-arrival = (refl, refl);
      second-end = refl;
      end-after-arrival = refl;
      oldest = (refl, refl);
      clock-back = refl;
      few = (refl, refl);
      two = (refl, refl);
      three = (refl, refl);
      everyone = (refl, refl);
      summary = refl;
      entries = refl;
      highest = (refl, refl);
      lowest = (refl, refl);
      room = (refl, refl);
      outside = (refl, (refl, refl));
      five-first = refl;
    }
