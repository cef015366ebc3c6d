-- What the answers list: one frame's lists are exactly the changes of state, and so over all frames no number is listed twice.
-- Assumes nothing.
use Prim.Native.Nat.{ℕ, suc, ◌+◌, ◌-◌, ◌≤◌, ◌<◌}
use mathlib.Core.Path.{◌≡◌, refl, sym, ap, ap₂, ◌∙◌, subst}
use mathlib.Core.Bool.{Bool, true, false, not, ◌&&◌}
use mathlib.Core.List.{List}
use native.Mathlib.Decide.{dec_le}
use native.Mathlib.Omega.{arith}
use Rattle.wire.specs.Bytes.{pick}
use Rattle.frames.specs.Ack.{check_ack}
use Rattle.marks.specs.Marks.{listed}
use Rattle.sent.specs.Record.{State, Outstanding, Acknowledged, Lost, is_acknowledged, is_lost, most_held, next_of, floor_of, state_at, is_due}
use Rattle.sent.specs.Heard.{within, end_after, heard_state, state_after, newly, newly_in, Hearing}
use Rattle.sent.proofs.Stays.{hear-stays}
use Rattle.sent.proofs.Records.{says-next, says-state}
use Rattle.losses.specs.Sequence.{Calls, none, ◌then◌, send_next, hear_frame, after, hearing}
use Rattle.losses.specs.Told.{largest_in, ranges_in, sent_told, forgotten, end_told, told, is_out, count_of, record_told, times, Rises, listed_acked, listed_lost, ListsOf, ListsAreChanges, ListedOnce}
use Rattle.losses.proofs.Counting.{times_none, times-before, times-past, times-in, none-rises, listed-rises}
use Rattle.losses.proofs.Along.{same-state}
use Rattle.losses.proofs.Told.{holds, either_way, frame-end, held-told, gone-told, accepted, frame_fresh, refused-told, refused-not}

-- ---- one frame

-- nothing is new where nothing changed
not_new : (is : State → Bool) {s t : State} → t ≡ s → ◌≡◌ {A = ℕ} (pick (newly is s t) 1 0) 0
not_new is {s} e = ap (λ (x : State). count (newly is s x)) e ∙ go (is s)
  where
    count : Bool → ℕ
    count b = pick b 1 0

    go : (b : Bool) → ◌≡◌ {A = ℕ} (pick (b && not b) 1 0) 0
    go true = refl
    go false = refl

newly-rises : (is : State → Bool) (r pairs : List ℕ) (end : ℕ) → Rises (newly_in is r pairs end)
unfolding newly_in
newly-rises is r pairs end = listed-rises (λ n. newly is (state_at r n) (state_after r pairs end n)) (next_of r - floor_of r) (floor_of r)

module _ (cs : Calls) (s : List ℕ) (ackedRoom lostRoom : ℕ) where
  abbrev cs' : Calls
  cs' = cs then hear_frame s ackedRoom lostRoom

  abbrev k : ℕ
  k = sent_told cs

  abbrev q : List ℕ
  q = record_told cs

  abbrev pairs : List ℕ
  pairs = ranges_in s (check_ack s)

  abbrev end : ℕ
  end = end_after q (largest_in (check_ack s))

  module _ (ok : (hearing cs s ackedRoom lostRoom).result ≡ 0) (is : State → Bool) (n : ℕ) where
    abbrev test : ℕ → Bool
    test m = newly is (state_at q m) (state_after q pairs end m)

    in-numbers : times n (newly_in is q pairs end) ≡ times n (listed test (k - forgotten cs) (forgotten cs))
    unfolding newly_in
    in-numbers = ap (λ (x : ℕ). times n (listed test (x - (x - most_held)) (x - most_held))) (says-next (told cs) k (count_of is_acknowledged (told cs) (forgotten cs)) (count_of is_lost (told cs) (forgotten cs)) (end_told cs))

    by_place : times n (listed test (k - forgotten cs) (forgotten cs)) ≡ pick (newly is (told cs n) (told cs' n)) 1 0
    by_place = elim (dec_le (forgotten cs) n) [
      | yes lo ↦ elim (dec_le k n) [
        | yes hi ↦ times-past test (k - forgotten cs) (forgotten cs) n (omega arith) ∙ sym (not_new is (frame_fresh cs s ackedRoom lostRoom (holds cs) ok n hi ∙ sym ((holds cs).fresh n hi)))
        | no hi ↦
            times-in test (k - forgotten cs) (forgotten cs) n lo (omega arith)
            ∙ ap₂ (λ (x y : State). pick (newly is x y) 1 0) (says-state (told cs) k (count_of is_acknowledged (told cs) (forgotten cs)) (count_of is_lost (told cs) (forgotten cs)) (end_told cs) n lo (omega arith))
            (same-state (told cs) (told cs') k (end_told cs) (end_told cs') pairs (largest_in (check_ack s)) (frame-end cs s ackedRoom lostRoom (holds cs) ok) (held-told cs s ackedRoom lostRoom (holds cs) ok) (gone-told cs s ackedRoom lostRoom (holds cs) ok) n lo (omega arith))
      ]
      | no lo ↦ times-before test (k - forgotten cs) (forgotten cs) n (omega arith) ∙ sym (not_new is (gone-told cs s ackedRoom lostRoom (holds cs) ok n (omega arith)))
    ]

    pub changes : times n (newly_in is (after cs) (ranges_in s (check_ack s)) (end_after (after cs) (largest_in (check_ack s)))) ≡ pick (newly is (told cs n) (told (cs then hear_frame s ackedRoom lostRoom) n)) 1 0
    changes = ap (λ (r : List ℕ). times n (newly_in is r pairs (end_after r (largest_in (check_ack s))))) (holds cs).says ∙ in-numbers ∙ by_place

  accepted-lists : (hearing cs s ackedRoom lostRoom).result ≡ 0 → ListsOf cs s ackedRoom lostRoom
  accepted-lists e =
      let a = (accepted cs s ackedRoom lostRoom (holds cs) e).is in
      record {
        acked-rises = subst (λ (h : Hearing). Rises h.acked) (sym a) (newly-rises is_acknowledged (after cs) pairs (end_after (after cs) (largest_in (check_ack s))));
        lost-rises = subst (λ (h : Hearing). Rises h.lost) (sym a) (newly-rises is_lost (after cs) pairs (end_after (after cs) (largest_in (check_ack s))));
        acked-changes = λ n. ap (λ (h : Hearing). times n h.acked) a ∙ changes e is_acknowledged n;
        lost-changes = λ n. ap (λ (h : Hearing). times n h.lost) a ∙ changes e is_lost n;
      }

  refused-lists : (f : ℕ) → (hearing cs s ackedRoom lostRoom).result ≡ suc f → ListsOf cs s ackedRoom lostRoom
  refused-lists f e =
      let stays = hear-stays (after cs) s ackedRoom lostRoom in
      let no = refused-not cs s ackedRoom lostRoom f e in
      record {
        acked-rises = subst Rises (sym (stays.acked no)) none-rises;
        lost-rises = subst Rises (sym (stays.lost no)) none-rises;
        acked-changes = λ n. ap (times n) (stays.acked no) ∙ times_none n ∙ sym (not_new is_acknowledged (refused-told cs s ackedRoom lostRoom f e n));
        lost-changes = λ n. ap (times n) (stays.lost no) ∙ times_none n ∙ sym (not_new is_lost (refused-told cs s ackedRoom lostRoom f e n));
      }

pub lists-are-changes : ListsAreChanges
lists-are-changes cs s ackedRoom lostRoom =
    either_way (hearing cs s ackedRoom lostRoom).result (accepted-lists cs s ackedRoom lostRoom) (refused-lists cs s ackedRoom lostRoom)

-- ---- all frames

-- a state stays, becomes acknowledged, or is lost after it was outstanding
data Moves : State → State → Type 0 where
  stay : {s : State} → Moves s s
  acknowledge : {s : State} → Moves s Acknowledged
  lose : Moves Outstanding Lost

heard-moves : (w d : Bool) (s : State) → Moves s (heard_state w d s)
heard-moves true d s = acknowledge
heard-moves false true Outstanding = lose
heard-moves false true Acknowledged = stay
heard-moves false true Lost = stay
heard-moves false false s = stay

moves : (cs : Calls) (s : List ℕ) (ackedRoom lostRoom n : ℕ) → Moves (told cs n) (told (cs then hear_frame s ackedRoom lostRoom) n)
moves cs s ackedRoom lostRoom n =
    either_way (hearing cs s ackedRoom lostRoom).result
    (λ e.
    elim (dec_le (forgotten cs) n) [
      | yes lo ↦ subst (Moves (told cs n)) (sym (held-told cs s ackedRoom lostRoom (holds cs) e n lo)) (heard-moves (within (ranges_in s (check_ack s)) n) (is_due (end_told (cs then hear_frame s ackedRoom lostRoom)) n) (told cs n))
      | no lo ↦ subst (Moves (told cs n)) (sym (gone-told cs s ackedRoom lostRoom (holds cs) e n (omega arith))) stay
    ])
    (λ f e. subst (Moves (told cs n)) (sym (refused-told cs s ackedRoom lostRoom f e n)) stay)

acked-step : {s t : State} → Moves s t → pick (is_acknowledged s) 1 0 + pick (newly is_acknowledged s t) 1 0 ≡ pick (is_acknowledged t) 1 0
acked-step (stay {s = Outstanding}) = refl
acked-step (stay {s = Acknowledged}) = refl
acked-step (stay {s = Lost}) = refl
acked-step (acknowledge {s = Outstanding}) = refl
acked-step (acknowledge {s = Acknowledged}) = refl
acked-step (acknowledge {s = Lost}) = refl
acked-step lose = refl

lost-step : {s t : State} (x : ℕ) → Moves s t → x + pick (is_out s) 1 0 ≤ 1 → x + pick (newly is_lost s t) 1 0 + pick (is_out t) 1 0 ≤ 1
lost-step x (stay {s = Outstanding}) h = omega arith
lost-step x (stay {s = Acknowledged}) h = omega arith
lost-step x (stay {s = Lost}) h = omega arith
lost-step x (acknowledge {s = Outstanding}) h = omega arith
lost-step x (acknowledge {s = Acknowledged}) h = omega arith
lost-step x (acknowledge {s = Lost}) h = omega arith
lost-step x lose h = omega arith

pub acked-so : (cs : Calls) (n : ℕ) → listed_acked cs n ≡ pick (is_acknowledged (told cs n)) 1 0
unfolding listed_acked told
acked-so none n = refl
acked-so (cs then send_next) n = acked-so cs n
acked-so (cs then hear_frame s ackedRoom lostRoom) n = ap₂ ◌+◌ (acked-so cs n) ((lists-are-changes cs s ackedRoom lostRoom).acked-changes n) ∙ acked-step (moves cs s ackedRoom lostRoom n)

lost-most : (cs : Calls) (n : ℕ) → listed_lost cs n + pick (is_out (told cs n)) 1 0 ≤ 1
unfolding listed_lost told
lost-most none n = omega arith
lost-most (cs then send_next) n = lost-most cs n
lost-most (cs then hear_frame s ackedRoom lostRoom) n =
    subst (λ (x : ℕ). listed_lost cs n + x + pick (is_out (told (cs then hear_frame s ackedRoom lostRoom) n)) 1 0 ≤ 1) (sym ((lists-are-changes cs s ackedRoom lostRoom).lost-changes n))
    (lost-step (listed_lost cs n) (moves cs s ackedRoom lostRoom n) (lost-most cs n))

one_at_most : (b : Bool) → pick b 1 0 ≤ 1
one_at_most true = omega arith
one_at_most false = omega arith

-- what is acknowledged is not newly lost
not-lost : (s t : State) → 0 < pick (is_acknowledged t) 1 0 → ◌≡◌ {A = ℕ} (pick (newly is_lost s t) 1 0) 0
not-lost s Outstanding h = refl
not-lost s Acknowledged h = refl
not-lost s Lost h = absurd (omega arith)

pub listed-once : ListedOnce
listed-once cs n = record {
  acked-once = subst (λ (x : ℕ). x ≤ 1) (sym (acked-so cs n)) (one_at_most (is_acknowledged (told cs n)));
  lost-once = let h = lost-most cs n in omega arith;
  acked-so = acked-so cs n;
  never-lost-after = λ s ackedRoom lostRoom h.
      (lists-are-changes cs s ackedRoom lostRoom).lost-changes n
      ∙ not-lost (told cs n) (told (cs then hear_frame s ackedRoom lostRoom) n) (subst (λ (x : ℕ). 0 < x) (acked-so (cs then hear_frame s ackedRoom lostRoom) n) h);
}
