-- Hearing a frame: what the words' marks say of each number is what the request says of its state, and so are the lists and the record.
-- Assumes nothing.
use Prim.Native.Nat.{ℕ, ◌+◌, ◌-◌, ◌≤◌, ◌<◌}
use mathlib.Core.Path.{◌≡◌, refl, sym, ap, ap₂, ◌∙◌, subst}
use mathlib.Core.Bool.{Bool, true, false, not, ◌&&◌, ◌||◌}
use mathlib.Core.List.{List}
use native.Mathlib.Omega.{arith}
use borrow.Author.Tests.{le-leb, lt-leb, lt-ltb, le-ltb}
use lib.Dec.{leb}
use lib.ListN.{length, take}
use lib.Seq.{take_all}
use Rattle.std.specs.Prelude.{Result, Ok}
use Rattle.wire.specs.Bytes.{pick, splice}
use Rattle.wire.proofs.Bytes.{splice-none}
use Rattle.wire.specs.declared.Refusal.{Refusal}
use Rattle.frames.specs.Ack.{check_ack}
use Rattle.frames.specs.declared.Checked.{Checked}
use Rattle.marks.specs.Marks.{mark, listed}
use Rattle.marks.proofs.Listing.{listed_same}
use Rattle.sent.specs.Record.{is_acknowledged, is_lost, next_of, acked_before, lost_before, floor_of, acked_at, lost_at, state_of, state_at, is_due, DueMarks, record_of, consistent}
use Rattle.sent.specs.Heard.{within, end_after, heard_state, state_after, newly, newly_in, Hearing, refused_as, accepted_as, ranges_of, hear_ranges, hear_checked, hear, IsHeard, FrameMarks, AckedAnew, LostAnew, Changed}
use Rattle.sent.specs.declared.Reply.{Reply}
use Rattle.sent.proofs.Records.{record_is}

-- ---- one number, by its marks: in a range, due, acknowledged, lost

acked-newly : (w d a l : Bool) → (w && not a) ≡ newly is_acknowledged (state_of a l) (heard_state w d (state_of a l))
acked-newly true d true l = refl
acked-newly true d false true = refl
acked-newly true d false false = refl
acked-newly false true true l = refl
acked-newly false true false true = refl
acked-newly false true false false = refl
acked-newly false false true l = refl
acked-newly false false false true = refl
acked-newly false false false false = refl

lost-newly : (w d a l : Bool) → (d && not ((a || l) || w)) ≡ newly is_lost (state_of a l) (heard_state w d (state_of a l))
lost-newly true true true l = refl
lost-newly true true false true = refl
lost-newly true true false false = refl
lost-newly true false a l = refl
lost-newly false true true l = refl
lost-newly false true false true = refl
lost-newly false true false false = refl
lost-newly false false true l = refl
lost-newly false false false true = refl
lost-newly false false false false = refl

acked-after : (w d a l : Bool) → (a || w) ≡ is_acknowledged (heard_state w d (state_of a l))
acked-after true d true l = refl
acked-after true d false l = refl
acked-after false true true l = refl
acked-after false true false true = refl
acked-after false true false false = refl
acked-after false false true l = refl
acked-after false false false true = refl
acked-after false false false false = refl

lost-after : (w d a l : Bool) → ((l || d) && not (a || w)) ≡ is_lost (heard_state w d (state_of a l))
lost-after true d true true = refl
lost-after true true true false = refl
lost-after true false true false = refl
lost-after true d false true = refl
lost-after true true false false = refl
lost-after true false false false = refl
lost-after false true true true = refl
lost-after false true true false = refl
lost-after false true false true = refl
lost-after false true false false = refl
lost-after false false true true = refl
lost-after false false true false = refl
lost-after false false false true = refl
lost-after false false false false = refl

-- ---- all of them: the marks of a frame, of those that the rule settles, and of what changes

pub record Facts (r frame due acked lost pairs : List ℕ) (floor end : ℕ) : Type 0 where
  pub oldest : floor ≡ floor_of r
  pub most : end ≤ next_of r
  pub of-frame : FrameMarks frame floor pairs
  pub of-rule : DueMarks due floor end
  pub new-acked : AckedAnew acked r frame
  pub new-lost : LostAnew lost r frame due

module _ (r frame due acked lost pairs : List ℕ) (floor end : ℕ) (f : Facts r frame due acked lost pairs floor end) where
  due-at : (n : ℕ) → floor ≤ n → n < floor + 1024 → mark due n ≡ is_due end n
  due-at n h l = f.of-rule.marks (omega (arith, f.most, f.oldest)) n h l

  pub acked-list : listed (mark acked) (next_of r - floor) floor ≡ newly_in is_acknowledged r pairs end
  unfolding newly_in
  acked-list =
      listed_same (mark acked) (λ n. newly is_acknowledged (state_at r n) (state_after r pairs end n)) (next_of r - floor) floor (λ n h l.
      let m : n < floor + 1024 = omega (arith, f.oldest) in
      f.new-acked.marks n ∙ ap (λ (w : Bool). w && not (acked_at r n)) (f.of-frame.marks n h m) ∙ acked-newly (within pairs n) (is_due end n) (acked_at r n) (lost_at r n))
      ∙ ap (λ (x : ℕ). listed (λ n. newly is_acknowledged (state_at r n) (state_after r pairs end n)) (next_of r - x) x) f.oldest

  pub lost-list : listed (mark lost) (next_of r - floor) floor ≡ newly_in is_lost r pairs end
  unfolding newly_in
  lost-list =
      listed_same (mark lost) (λ n. newly is_lost (state_at r n) (state_after r pairs end n)) (next_of r - floor) floor (λ n h l.
      let m : n < floor + 1024 = omega (arith, f.oldest) in
      f.new-lost.marks n ∙ ap₂ (λ (d w : Bool). d && not ((acked_at r n || lost_at r n) || w)) (due-at n h m) (f.of-frame.marks n h m)
      ∙ lost-newly (within pairs n) (is_due end n) (acked_at r n) (lost_at r n))
      ∙ ap (λ (x : ℕ). listed (λ n. newly is_lost (state_at r n) (state_after r pairs end n)) (next_of r - x) x) f.oldest

  pub record-after : (x : List ℕ) → Changed x r frame due end → x ≡ record_of (state_after r pairs end) (next_of r) (acked_before r) (lost_before r) end
  record-after x c =
      record_is x (state_after r pairs end) (next_of r) (acked_before r) (lost_before r) end c.long c.fits
      (λ n h l.
      c.acked n ∙ ap (λ (w : Bool). acked_at r n || w) (f.of-frame.marks n (omega (arith, f.oldest)) (omega (arith, f.oldest)))
      ∙ acked-after (within pairs n) (is_due end n) (acked_at r n) (lost_at r n))
      (λ n h l.
      c.lost n
      ∙ ap₂ (λ (d w : Bool). (lost_at r n || d) && not (acked_at r n || w)) (due-at n (omega (arith, f.oldest)) (omega (arith, f.oldest))) (f.of-frame.marks n (omega (arith, f.oldest)) (omega (arith, f.oldest)))
      ∙ lost-after (within pairs n) (is_due end n) (acked_at r n) (lost_at r n))
      c.sent c.acked-before c.lost-before c.end_is

-- ---- the answer, the record and the lists

-- a refusal
pub heard-refused : {h : Hearing} (refusal : ℕ) (r xs ys : List ℕ) {a : Reply} → a ≡ record { result = refusal; length = 0; acked = 0; lost = 0 } → refused_as refusal r ≡ h → IsHeard h xs ys a r xs ys
heard-refused refusal r xs ys {a} e d =
    subst (λ (h : Hearing). IsHeard h xs ys a r xs ys) d (record { answers = e; leaves = refl; lists-acked = sym (splice-none xs 0); lists-lost = sym (splice-none ys 0) })

module _ (r pairs : List ℕ) (end used ackedRoom lostRoom : ℕ) where
  abbrev new_acked : List ℕ
  new_acked = newly_in is_acknowledged r pairs end

  abbrev new_lost : List ℕ
  new_lost = newly_in is_lost r pairs end

  pub acked-no-room : ackedRoom < length (newly_in is_acknowledged r pairs end) → refused_as 9 r ≡ hear_ranges r pairs end used ackedRoom lostRoom
  unfolding hear_ranges
  acked-no-room h = sym (ap (λ (b : Bool). pick (b && leb (length new_lost) lostRoom) (accepted_as r pairs end used) (refused_as 9 r)) (lt-leb (length new_acked) ackedRoom h))

  module _ (room : length (newly_in is_acknowledged r pairs end) ≤ ackedRoom) where
    pub lost-no-room : lostRoom < length (newly_in is_lost r pairs end) → refused_as 9 r ≡ hear_ranges r pairs end used ackedRoom lostRoom
    unfolding hear_ranges
    lost-no-room h = sym (ap₂ (λ (b c : Bool). pick (b && c) (accepted_as r pairs end used) (refused_as 9 r)) (le-leb (length new_acked) ackedRoom room) (lt-leb (length new_lost) lostRoom h))

    pub both-room : length (newly_in is_lost r pairs end) ≤ lostRoom → accepted_as r pairs end used ≡ hear_ranges r pairs end used ackedRoom lostRoom
    unfolding hear_ranges
    both-room h = sym (ap₂ (λ (b c : Bool). pick (b && c) (accepted_as r pairs end used) (refused_as 9 r)) (le-leb (length new_acked) ackedRoom room) (le-leb (length new_lost) lostRoom h))

-- what is written, for an end that is known to be the definition's: xs and ys are the lists as they came
module _ (r frame due acked lost pairs xs ys : List ℕ) (floor end used : ℕ) (f : Facts r frame due acked lost pairs floor end) {last : ℕ} (g : end ≡ last) where
  with-end : {a : Reply} {words xs' ys' : List ℕ} → IsHeard (hear_ranges r pairs end used (length xs) (length ys)) xs ys a words xs' ys' → IsHeard (hear_ranges r pairs last used (length xs) (length ys)) xs ys a words xs' ys'
  with-end {a} {words} {xs'} {ys'} h = subst (λ (z : ℕ). IsHeard (hear_ranges r pairs z used (length xs) (length ys)) xs ys a words xs' ys') g h

  as-acked : length (listed (mark acked) (next_of r - floor) floor) ≡ length (newly_in is_acknowledged r pairs end)
  as-acked = ap length (acked-list r frame due acked lost pairs floor end f)

  as-lost : length (listed (mark lost) (next_of r - floor) floor) ≡ length (newly_in is_lost r pairs end)
  as-lost = ap length (lost-list r frame due acked lost pairs floor end f)

  module _ (count : ℕ) (c : count ≡ length (listed (mark acked) (next_of r - floor) floor)) where
    pub short-acked : {a : Reply} → a ≡ record { result = 9; length = 0; acked = 0; lost = 0 } → length xs < count → IsHeard (hear_ranges r pairs last used (length xs) (length ys)) xs ys a r xs ys
    short-acked e h = with-end (heard-refused 9 r xs ys e (acked-no-room r pairs end used (length xs) (length ys) (omega (arith, as-acked))))

    module _ (room : count ≤ length xs) (lostCount : ℕ) (d : lostCount ≡ length (listed (mark lost) (next_of r - floor) floor)) where
      pub short-lost : {a : Reply} → a ≡ record { result = 9; length = 0; acked = 0; lost = 0 } → length ys < lostCount → IsHeard (hear_ranges r pairs last used (length xs) (length ys)) xs ys a r xs ys
      short-lost e h = with-end (heard-refused 9 r xs ys e (lost-no-room r pairs end used (length xs) (length ys) (omega (arith, as-acked)) (omega (arith, as-lost))))

      pub written : (words xs' ys' : List ℕ) → lostCount ≤ length ys → Changed words r frame due end
          → xs' ≡ splice xs 0 (take (length xs) (listed (mark acked) (next_of r - floor) floor)) → ys' ≡ splice ys 0 (take (length ys) (listed (mark lost) (next_of r - floor) floor))
          → IsHeard (hear_ranges r pairs last used (length xs) (length ys)) xs ys (record { result = 0; length = used; acked = count; lost = lostCount }) words xs' ys'
      written words xs' ys' h w p q =
          let la = acked-list r frame due acked lost pairs floor end f in
          let ll = lost-list r frame due acked lost pairs floor end f in
          with-end (subst (λ (k : Hearing). IsHeard k xs ys (record { result = 0; length = used; acked = count; lost = lostCount }) words xs' ys')
          (both-room r pairs end used (length xs) (length ys) (omega (arith, as-acked)) (omega (arith, as-lost)))
          (record {
            answers = ap₂ (λ (i j : ℕ). record { result = 0; length = used; acked = i; lost = j }) (c ∙ as-acked) (d ∙ as-lost);
            leaves = record-after r frame due acked lost pairs floor end f words w;
            lists-acked = p ∙ ap (splice xs 0) (take_all (length xs) (listed (mark acked) (next_of r - floor) floor) (omega arith) ∙ la);
            lists-lost = q ∙ ap (splice ys 0) (take_all (length ys) (listed (mark lost) (next_of r - floor) floor) (omega arith) ∙ ll);
          }))

-- ---- the refusals before the ranges: b is what the test of the record answers, k what the check of the frame

module _ (r s : List ℕ) (ackedRoom lostRoom : ℕ) {b : Bool} (e : b ≡ consistent r) where
  pub one : b ≡ false → refused_as 1 r ≡ hear r s ackedRoom lostRoom
  unfolding hear
  one f = sym (ap (λ (x : Bool). pick x (hear_checked r s ackedRoom lostRoom (check_ack s)) (refused_as 1 r)) (sym e ∙ f))

  module _ (f : b ≡ true) {k : Result Checked Refusal} (d : k ≡ check_ack s) where
    pub checked : (v : Result Checked Refusal) → k ≡ v → hear_checked r s ackedRoom lostRoom v ≡ hear r s ackedRoom lostRoom
    unfolding hear
    checked v t =
        ap (hear_checked r s ackedRoom lostRoom) (sym t ∙ d) ∙ sym (ap (λ (x : Bool). pick x (hear_checked r s ackedRoom lostRoom (check_ack s)) (refused_as 1 r)) (sym e ∙ f))

    module _ {c : Checked} (t : k ≡ Ok c) where
      pub never-sent : next_of r ≤ c.largest → refused_as 16 r ≡ hear r s ackedRoom lostRoom
      never-sent h =
          sym (ap (λ (x : Bool). pick x (hear_ranges r (ranges_of s c).pairs (end_after r c.largest) c.used ackedRoom lostRoom) (refused_as 16 r)) (le-ltb c.largest (next_of r) h))
          ∙ checked (Ok c) t

      pub was-sent : c.largest < next_of r → hear_ranges r (ranges_of s c).pairs (end_after r c.largest) c.used ackedRoom lostRoom ≡ hear r s ackedRoom lostRoom
      was-sent h =
          sym (ap (λ (x : Bool). pick x (hear_ranges r (ranges_of s c).pairs (end_after r c.largest) c.used ackedRoom lostRoom) (refused_as 16 r)) (lt-ltb c.largest (next_of r) h))
          ∙ checked (Ok c) t
