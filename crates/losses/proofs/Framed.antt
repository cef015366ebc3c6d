-- A frame that is heard: an accepted one is what the definition makes of its ranges, and these lie below its largest.
-- Assumes nothing.
use Prim.Native.Nat.{ℕ, zero, suc, ◌+◌, ◌-◌, ◌<◌}
use mathlib.Core.Path.{◌≡◌, refl, sym, ap, ap₂, ◌∙◌}
use mathlib.Core.Bool.{Bool, true, false, ◌&&◌, ◌||◌}
use mathlib.Core.List.{List, []}
use native.Mathlib.Omega.{arith}
use borrow.Author.Tests.{le-ltb, ltb-true}
use lib.Dec.{leb, ltb}
use lib.ListN.{length}
use Rattle.std.specs.Prelude.{Result, Ok, Err}
use Rattle.wire.specs.Bytes.{pick}
use Rattle.wire.specs.Numbers.{read_number}
use Rattle.wire.specs.declared.Refusal.{Refusal}
use Rattle.frames.specs.Ack.{Ranges, before, ranges_from, check_ack}
use Rattle.frames.specs.declared.Checked.{Checked}
use Rattle.frames.proofs.Lent.{field-all, pick_all}
use Rattle.sent.specs.Record.{is_acknowledged, is_lost, next_of, consistent}
use Rattle.sent.proofs.Refusals.{is_numbered}
use Rattle.sent.specs.Heard.{ranges_of, within, end_after, newly_in, Hearing, refused_as, accepted_as, hear_ranges, hear_checked, hear}
use Rattle.losses.specs.Told.{largest_in, ranges_in}

-- ---- the ranges

-- n is not in them
record Low (n : ℕ) (r : Ranges) : Type 0 where
  out : within r.pairs n ≡ false

low-none : {n : ℕ} {q : Ranges} → q.pairs ≡ [] → Low n q
unfolding within
low-none {n} e = record { out = ap (λ (ps : List ℕ). within ps n) e }

above : {lo high n : ℕ} {q : Ranges} → high < n → Low n q → Low n (before lo high q)
unfolding within
above {lo} {high} {n} h p = record { out = ap₂ ◌||◌ (past (leb lo n) (le-ltb n (high + 1) (omega arith))) p.out }
  where
    past : (b : Bool) → ltb n (high + 1) ≡ false → (b && ltb n (high + 1)) ≡ false
    past true e = e
    past false e = refl

ranges-low : (count : ℕ) (s : List ℕ) (at largest n : ℕ) → largest < n → Low n (ranges_from count s at largest)
unfolding ranges_from
ranges-low zero s at largest n h =
    field-all (Low n) (read_number s at) (low-none refl) (λ len mid.
    pick_all (Low n) (leb len largest) (above h (low-none refl)) (low-none refl))
ranges-low (suc count) s at largest n h =
    field-all (Low n) (read_number s at) (low-none refl) (λ len mid.
    pick_all (Low n) (leb len largest)
    (above h
    (field-all (Low n) (read_number s mid) (low-none refl) (λ gap to.
    pick_all (Low n) (leb (gap + 2) (largest - len)) (ranges-low count s to (largest - len - gap - 2) n (omega arith)) (low-none refl))))
    (low-none refl))

pub within_low : (s : List ℕ) (k : Result Checked Refusal) (n : ℕ) → largest_in k < n → within (ranges_in s k) n ≡ false
unfolding within
within_low s (Ok c) n h = (ranges-low c.count s c.at c.largest n h).out
within_low s (Err refusal) n h = refl

-- ---- an accepted frame

abbrev pub used_in : Result Checked Refusal → ℕ
used_in (Ok c) = c.used
used_in (Err refusal) = 0

-- what is accepted is what the definition says, and its largest was sent
pub record Accepted (r s : List ℕ) (k : Result Checked Refusal) (h : Hearing) : Type 0 where
  pub sound : consistent r ≡ true
  pub sent : largest_in k < next_of r
  pub is : h ≡ accepted_as r (ranges_in s k) (end_after r (largest_in k)) (used_in k)

never : {P : Type 0} {n : ℕ} → suc n ≡ 0 → P
never e = absurd (omega arith)

by-room : (r s : List ℕ) (k : Result Checked Refusal) (x y : Hearing) → consistent r ≡ true → largest_in k < next_of r → x ≡ accepted_as r (ranges_in s k) (end_after r (largest_in k)) (used_in k) → y ≡ refused_as 9 r → (b : Bool)
    → (pick b x y).result ≡ 0 → Accepted r s k (pick b x y)
by-room r s k x y c h p q true z = record { sound = c; sent = h; is = p }
by-room r s k x y c h p q false z = never (sym (ap (λ (u : Hearing). u.result) q) ∙ z)

module _ (r s : List ℕ) (ackedRoom lostRoom : ℕ) (c : consistent r ≡ true) where
  by-ranges : (f : Checked) → f.largest < next_of r
      → (hear_ranges r (ranges_of s f).pairs (end_after r f.largest) f.used ackedRoom lostRoom).result ≡ 0
      → Accepted r s (Ok f) (hear_ranges r (ranges_of s f).pairs (end_after r f.largest) f.used ackedRoom lostRoom)
  unfolding hear_ranges
  by-ranges f h z =
      let pairs : List ℕ = (ranges_of s f).pairs in
      let end : ℕ = end_after r f.largest in
      by-room r s (Ok f) (accepted_as r pairs end f.used) (refused_as 9 r) c h refl refl
      (leb (length (newly_in is_acknowledged r pairs end)) ackedRoom && leb (length (newly_in is_lost r pairs end)) lostRoom) z

  by-check : (k : Result Checked Refusal) → (hear_checked r s ackedRoom lostRoom k).result ≡ 0 → Accepted r s k (hear_checked r s ackedRoom lostRoom k)
  by-check (Err refusal) e = absurd (is_numbered refusal e)
  by-check (Ok f) e = go (ltb f.largest (next_of r)) refl e
    where
      go : (b : Bool) → ltb f.largest (next_of r) ≡ b → (pick b (hear_ranges r (ranges_of s f).pairs (end_after r f.largest) f.used ackedRoom lostRoom) (refused_as 16 r)).result ≡ 0
          → Accepted r s (Ok f) (pick b (hear_ranges r (ranges_of s f).pairs (end_after r f.largest) f.used ackedRoom lostRoom) (refused_as 16 r))
      go true t z = by-ranges f (ltb-true f.largest (next_of r) t) z
      go false t z = never z

pub accepted-is : (r s : List ℕ) (ackedRoom lostRoom : ℕ) → (hear r s ackedRoom lostRoom).result ≡ 0 → Accepted r s (check_ack s) (hear r s ackedRoom lostRoom)
unfolding hear
accepted-is r s ackedRoom lostRoom e = go (consistent r) refl e
  where
    go : (b : Bool) → consistent r ≡ b → (pick b (hear_checked r s ackedRoom lostRoom (check_ack s)) (refused_as 1 r)).result ≡ 0 → Accepted r s (check_ack s) (pick b (hear_checked r s ackedRoom lostRoom (check_ack s)) (refused_as 1 r))
    go true c z = by-check r s ackedRoom lostRoom c (check_ack s) z
    go false c z = never z
