-- After every list of calls from an accepted opening the record knows what the calls tell, and every report from it is made from that.
-- Assumes nothing.
use Prim.Native.Nat.{ℕ, zero, suc, ◌+◌}
use mathlib.Core.Path.{◌≡◌, refl, ap, ◌∙◌}
use mathlib.Core.Bool.{Bool, true, false}
use mathlib.Core.List.{List, [], ◌∷◌}
use native.Mathlib.Omega.{arith}
use lib.ListN.{length, get_or, replicate}
use Rattle.wire.specs.Bytes.{pick}
use Rattle.tracker.specs.Known.{most_objects, Known}
use Rattle.tracker.specs.Record.{word_at, fate_of, both_obey, numbers_obey, consistent, known}
use Rattle.tracker.specs.Calls.{open_refusal, opened, arrival_obeys, arrived_refusal, arrived_after, ended_refusal, ended_after}
use Rattle.tracker.specs.Report.{summary_of, entries_at, made_refusal, reported_as, stored_unless, report_refusal, report_answer, report_bytes}
use Rattle.tracked.specs.Told.{Call, arrival, early_end, after, first_told, arrival_told, end_told, known_told, Told, TotalIsParts}
use Rattle.tracker.specs.Status.{status_at}
use Rattle.tracker.proofs.Judging.{both_small}
use Rattle.tracker.proofs.Counted.{total-parts}
use Rattle.tracker.proofs.Exactly.{consistent-exactly, no}
use Rattle.tracked.proofs.Told.{Holds, refusal-now, fate_then, first_then, same-fate, same_first}
use Rattle.tracked.proofs.Steps.{arrival-step, end_step}

pub total-is-parts : TotalIsParts
total-is-parts first interval calls time = total-parts (status_at (known_told first interval calls) time) most_objects 0

-- ---- after some calls, from a record that holds

record Ends (first interval : ℕ) (r s : List ℕ) (calls : List Call) : Type 0 where
  holds : Holds first interval s
  named : (known s).arrival ≡ first_then (known r).arrival (first_told first calls)
  fate : (p : ℕ) → fate_of (word_at s p) ≡ fate_then (fate_of (word_at r p)) (arrival_told first (first + p) calls) (end_told first (first + p) calls)

ends : (first interval : ℕ) (calls : List Call) (r : List ℕ) → Holds first interval r → Ends first interval r (after r calls) calls
unfolding after first_told arrival_told end_told
ends first interval [] r h = record { holds = h; named = same_first (known r).arrival; fate = λ p. same-fate (fate_of (word_at r p)) }
ends first interval (arrival object time deadline ∷ later) r h =
    let st = arrival-step first interval r h object time deadline in
    let m = ends first interval later (arrived_after r object time deadline) st.holds in
    record { holds = m.holds; named = m.named ∙ st.names (first_told first later); fate = λ p. m.fate p ∙ st.fates p (arrival_told first (first + p) later) (end_told first (first + p) later) }
ends first interval (early_end object time ∷ later) r h =
    let st = end_step first interval r h object time in
    let m = ends first interval later (ended_after r object time) st.holds in
    record { holds = m.holds; named = m.named ∙ st.names (first_told first later); fate = λ p. m.fate p ∙ st.fates p (arrival_told first (first + p) later) (end_told first (first + p) later) }

-- ---- an opening

behind-three : (a b c : ℕ) (xs : List ℕ) (p : ℕ) → get_or (a ∷ b ∷ c ∷ xs) (3 + p) 0 ≡ get_or xs p 0
behind-three a b c xs p = let e : 3 + p ≡ suc (suc (suc p)) = omega arith in rw e

-- past the last of them too
all-zero : (n p : ℕ) → get_or {A = ℕ} (replicate n 0) p 0 ≡ 0
all-zero zero p = refl
all-zero (suc n) zero = refl
all-zero (suc n) (suc p) = all-zero n p

opened-word : (first interval p : ℕ) → word_at (opened first interval) p ≡ 0
unfolding opened
opened-word first interval p = behind-three first interval 0 (replicate most_objects 0) p ∙ all-zero most_objects p

open-obeys : (first interval : ℕ) → open_refusal first interval ≡ 0 → numbers_obey first interval ≡ true
unfolding open_refusal
open-obeys first interval e = go (numbers_obey first interval) e
  where
    go : (b : Bool) → ◌≡◌ {A = ℕ} (pick b 0 5) 0 → b ≡ true
    go true e = refl
    go false e = no 5 0 refl e

opening-holds : (first interval : ℕ) → open_refusal first interval ≡ 0 → Holds first interval (opened first interval)
unfolding opened
opening-holds first interval e =
    let b = both_small (first + 255) interval (open-obeys first interval e) in
    record {
      size = refl;
      sound = record {
        last = b.0;
        interval = b.1;
        within = omega arith;
        named = λ f. absurd (f refl);
        none = λ z p l. rw (opened-word first interval p) (λ a. omega arith);
      };
      is-first = refl;
      is-interval = refl;
    }

-- ---- from the opening on

module _ (first interval : ℕ) (calls : List Call) (opens : open_refusal first interval ≡ 0) where
  abbrev now : List ℕ
  now = after (opened first interval) calls

  whole : Ends first interval (opened first interval) now calls
  whole = ends first interval calls (opened first interval) (opening-holds first interval opens)

  named-now : (known now).arrival ≡ first_told first calls
  unfolding opened
  named-now = whole.named

  fate-now : (p : ℕ) → fate_of (word_at now p) ≡ (known_told first interval calls).became p
  fate-now p = whole.fate p ∙ ap (λ (w : ℕ). fate_then (fate_of w) (arrival_told first (first + p) calls) (end_told first (first + p) calls)) (opened-word first interval p)

  says-now : known now ≡ known_told first interval calls
  says-now = λ i. record { first = whole.holds.is-first i; interval = whole.holds.is-interval i; arrival = named-now i; became = λ p. fate-now p i }

  sound-now : consistent now ≡ true
  sound-now = (consistent-exactly now).1 whole.holds.sound

  report-refusal : (time reportInterval room : ℕ) → report_refusal now time reportInterval room ≡ made_refusal (known_told first interval calls) time reportInterval room
  unfolding report_refusal
  report-refusal time reportInterval room = rw sound-now (ap (λ (k : Known). made_refusal k time reportInterval room) says-now)

pub told : Told
unfolding arrived_refusal ended_refusal report_answer report_bytes summary_of
told first interval calls e =
    record {
      says = says-now first interval calls e;
      sound = sound-now first interval calls e;
      arrivals = λ object time deadline. refusal-now _ first interval object (whole first interval calls e).holds (arrival_obeys object time deadline);
      ends = λ object time. refusal-now _ first interval object (whole first interval calls e).holds (both_obey object time);
      summary = λ time i room. rw (report-refusal first interval calls e time i room) (ap (λ (k : Known). reported_as (made_refusal (known_told first interval calls) time i room) (summary_of k time i)) (says-now first interval calls e));
      entries = λ time i xs. rw (report-refusal first interval calls e time i (length xs)) (ap (λ (k : Known). stored_unless (made_refusal (known_told first interval calls) time i (length xs)) (entries_at k time) xs) (says-now first interval calls e));
    }
