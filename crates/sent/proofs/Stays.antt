-- A refused call changes nothing and lists nothing.
-- Assumes nothing.
use Prim.Native.Nat.{ℕ, zero, suc}
use mathlib.Core.Path.{◌≡◌, refl}
use mathlib.Core.Bool.{Bool, true, false, ◌&&◌}
use mathlib.Core.List.{List, []}
use lib.Dec.{leb, ltb}
use lib.ListN.{length}
use Rattle.std.specs.Prelude.{Result, Ok, Err}
use Rattle.wire.specs.Bytes.{pick}
use Rattle.wire.specs.Refusals.{number_of}
use Rattle.wire.specs.declared.Refusal.{Refusal}
use Rattle.frames.specs.Ack.{check_ack}
use Rattle.frames.specs.declared.Checked.{Checked}
use Rattle.sent.specs.Record.{is_acknowledged, is_lost, next_of, consistent}
use Rattle.sent.specs.Calls.{send_refusal, unless_refused, with_sent}
use Rattle.sent.specs.Heard.{ranges_of, end_after, newly_in, Hearing, refused_as, accepted_as, hear_ranges, hear_checked, hear}
use Rattle.sent.specs.Exactly.{Unchanged}

stays : {A : Type 0} (f : ℕ) (old new : A) → (f ≡ 0 → ⊥) → unless_refused f old new ≡ old
stays zero old new n = absurd (n refl)
stays (suc f) old new n = refl

pub record Stays (r : List ℕ) (h : Hearing) : Type 0 where
  pub words : (h.result ≡ 0 → ⊥) → h.words ≡ r
  pub acked : (h.result ≡ 0 → ⊥) → h.acked ≡ []
  pub lost : (h.result ≡ 0 → ⊥) → h.lost ≡ []
  pub used : (h.result ≡ 0 → ⊥) → h.used ≡ 0

refused-stays : (r : List ℕ) (refusal : ℕ) → Stays r (refused_as refusal r)
refused-stays r refusal = record { words = λ n. refl; acked = λ n. refl; lost = λ n. refl; used = λ n. refl }

either_stays : (r : List ℕ) (b : Bool) (x y : Hearing) → Stays r x → Stays r y → Stays r (pick b x y)
either_stays r true x y p q = p
either_stays r false x y p q = q

accepted-stays : (r : List ℕ) (x : Hearing) → x.result ≡ 0 → Stays r x
accepted-stays r x e = record { words = λ n. absurd (n e); acked = λ n. absurd (n e); lost = λ n. absurd (n e); used = λ n. absurd (n e) }

ranges-stay : (r pairs : List ℕ) (end used ackedRoom lostRoom : ℕ) → Stays r (hear_ranges r pairs end used ackedRoom lostRoom)
unfolding hear_ranges
ranges-stay r pairs end used ackedRoom lostRoom =
    either_stays r (leb (length (newly_in is_acknowledged r pairs end)) ackedRoom && leb (length (newly_in is_lost r pairs end)) lostRoom) (accepted_as r pairs end used) (refused_as 9 r)
    (accepted-stays r (accepted_as r pairs end used) refl) (refused-stays r 9)

checked-stays : (r s : List ℕ) (ackedRoom lostRoom : ℕ) (k : Result Checked Refusal) → Stays r (hear_checked r s ackedRoom lostRoom k)
checked-stays r s ackedRoom lostRoom (Err refusal) = refused-stays r (number_of refusal)
checked-stays r s ackedRoom lostRoom (Ok c) =
    let pairs : List ℕ = (ranges_of s c).pairs in
    either_stays r (ltb c.largest (next_of r)) (hear_ranges r pairs (end_after r c.largest) c.used ackedRoom lostRoom) (refused_as 16 r)
    (ranges-stay r pairs (end_after r c.largest) c.used ackedRoom lostRoom) (refused-stays r 16)

pub hear-stays : (r s : List ℕ) (ackedRoom lostRoom : ℕ) → Stays r (hear r s ackedRoom lostRoom)
unfolding hear
hear-stays r s ackedRoom lostRoom =
    either_stays r (consistent r) (hear_checked r s ackedRoom lostRoom (check_ack s)) (refused_as 1 r) (checked-stays r s ackedRoom lostRoom (check_ack s)) (refused-stays r 1)

pub unchanged : Unchanged
unchanged = record {
  send = λ r n. stays (send_refusal r) r (with_sent r) n;
  heard = λ r s ackedRoom lostRoom. (hear-stays r s ackedRoom lostRoom).words;
  acked = λ r s ackedRoom lostRoom. (hear-stays r s ackedRoom lostRoom).acked;
  lost = λ r s ackedRoom lostRoom. (hear-stays r s ackedRoom lostRoom).lost;
  used = λ r s ackedRoom lostRoom. (hear-stays r s ackedRoom lostRoom).used;
}
