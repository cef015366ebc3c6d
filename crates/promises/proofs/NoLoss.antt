-- No loss is kept back: by induction over the accepted calls. An ack-eliciting packet that leaves a missing number R or more behind finds a cause, an ACK that reached as far, or the order line holds;
-- a write reaches as far as any packet before it.
-- Assumes nothing.
use Prim.Native.Nat.{ℕ, zero, suc, ◌+◌, ◌-◌, ◌≤◌, ◌<◌, min, max}
use mathlib.Core.Path.{◌≡◌, refl, sym, ap, ◌∙◌}
use mathlib.Core.Bool.{Bool, true, false, false≢true}
use mathlib.Core.List.{List, [], ◌∷◌}
use mathlib.Core.Logic.{◌⊎◌, inl, inr}
use native.Mathlib.Nat.{max-le, le-max_left, le-max_right, le_trans, min-eq_left, min-eq_right, le-min}
use native.Mathlib.Omega.{arith}
use borrow.Author.Tests.{le-leb, eqb-true}
use lib.Dec.{ltb, eqb}
use Rattle.wire.specs.Bytes.{pick}
use Rattle.wire.proofs.Lengths.{split}
use Rattle.std.specs.Prelude.{Some}
use Rattle.receiver.specs.declared.Millis.{Millis}
use Rattle.seen.specs.declared.Micros.{Micros}
use Rattle.seen.specs.Received.{floor_of}
use Rattle.receiver.specs.declared.Agreed.{Agreed}
use Rattle.receiver.specs.declared.Receiver.{Receiver}
use Rattle.receiver.specs.Packet.{standing}
use Rattle.receiver.specs.Calls.{timer_due}
use Rattle.ecn.specs.declared.Mark.{Mark}
use Rattle.promises.specs.Sequence.{packet, timer, immediate, threshold, write, confirm, Calls, none, ◌then◌, opening}
use Rattle.promises.specs.Accepted.{Packet, packet_of, accepted_of, packets, since, before, frames}
use Rattle.promises.specs.Told.{largest, eliciting_of, among, in_force, confirmed_of, floor_in, pending_of}
use Rattle.promises.specs.Order.{missing_from, smallest_missing, far_below, order_of}
use Rattle.promises.specs.Due.{known, of_packet, due}
use Rattle.promises.specs.NoLoss.{r_in_force, same_r, under_same_r, written_up_to, NoLossKeptBack}
use Rattle.promises.proofs.Truth.{neither_right, by-same}
use Rattle.promises.proofs.Packets.{none_above, largest-grows, highest-below, pending-below}
use Rattle.promises.proofs.Due.{due-is}

-- ---- lists of packets

-- what is missing with one packet more was missing before
still-missing : (p : Packet) (ps : List Packet) (m : ℕ) → among (p ∷ ps) m ≡ false → among ps m ≡ false
unfolding among
still-missing p ps m e = neither_right (eqb p.number m) (among ps m) e

-- with an ack-eliciting one the largest of these
eliciting-largest : (n : ℕ) (time : Micros) (mark : Mark) (ps : List Packet) → largest (eliciting_of (packet_of n time true mark ∷ ps)) ≡ max (largest (eliciting_of ps)) (n + 1)
unfolding largest eliciting_of
eliciting-largest n time mark ps = refl

-- a number among them is below their end
among_below : (ps : List Packet) (n : ℕ) → among ps n ≡ true → n < largest ps
among_below ps n e = split (largest ps) n (λ h. absurd (false≢true (sym (none_above ps n h) ∙ e))) (λ h. h)

-- one more packet on both sides
eliciting-below : (n : ℕ) (time : Micros) (eliciting : Bool) (mark : Mark) (qs ps : List Packet) → largest (eliciting_of qs) ≤ largest ps
    → largest (eliciting_of (packet_of n time eliciting mark ∷ qs)) ≤ largest (packet_of n time eliciting mark ∷ ps)
unfolding largest eliciting_of
eliciting-below n time true mark qs ps h =
    max-le (omega (arith, h, le-max_left (largest ps) (n + 1))) (le-max_right (largest ps) (n + 1))
eliciting-below n time false mark qs ps h = omega (arith, h, le-max_left (largest ps) (n + 1))

none_below : (k : ℕ) → largest (eliciting_of []) ≤ k
unfolding largest eliciting_of
none_below k = omega arith

restarted : (b : Bool) (qs : List Packet) (k : ℕ) → largest (eliciting_of qs) ≤ k → largest (eliciting_of (pick b qs [])) ≤ k
restarted true qs k h = h
restarted false qs k h = none_below k

-- the packets since R came into force are at most L
under-below : (o : Receiver) (cs : Calls) → largest (eliciting_of (under_same_r o cs)) ≤ largest (packets cs)
unfolding under_same_r packets
under-below o none = none_below (largest [])
under-below o (cs then packet n time eliciting mark) = eliciting-below n time eliciting mark (under_same_r o cs) (packets cs) (under-below o cs)
under-below o (cs then timer time) = under-below o cs
under-below o (cs then immediate) = under-below o cs
under-below o (cs then threshold s t d q) =
    restarted (same_r o cs (cs then threshold s t d q)) (under_same_r o cs) (largest (packets cs)) (under-below o cs)
under-below o (cs then write time kind room) = under-below o cs
under-below o (cs then confirm k) = under-below o cs

-- ---- the floor and what was written

floor-grows : (o : Receiver) (cs : Calls) (n : ℕ) (time : Micros) (eliciting : Bool) (mark : Mark) → floor_in cs ≤ floor_in (cs then packet n time eliciting mark)
unfolding confirmed_of packets
floor-grows o cs n time eliciting mark =
    let g : floor_of (largest (packets cs)) ≤ floor_of (largest (packet_of n time eliciting mark ∷ packets cs)) = omega (arith, largest-grows (packet_of n time eliciting mark) (packets cs)) in
    max-le (le-max_left (confirmed_of cs) _) (le_trans g (le-max_right (confirmed_of cs) _))

floor-raised : (cs : Calls) (k : ℕ) → floor_in cs ≤ floor_in (cs then confirm k)
unfolding confirmed_of packets
floor-raised cs k = max-le (le_trans (le-max_left (confirmed_of cs) _) (le-max_left _ _)) (le-max_right _ (floor_of (largest (packets cs))))

-- A was the largest number of a write
acknowledged-written : (cs : Calls) → largest (before cs) ≤ written_up_to cs
unfolding before written_up_to largest
acknowledged-written none = omega arith
acknowledged-written (cs then packet n time eliciting mark) = acknowledged-written cs
acknowledged-written (cs then timer time) = acknowledged-written cs
acknowledged-written (cs then immediate) = acknowledged-written cs
acknowledged-written (cs then threshold s t d q) = acknowledged-written cs
acknowledged-written (cs then write time kind room) = le-max_right (written_up_to cs) (largest (packets cs))
acknowledged-written (cs then confirm k) = acknowledged-written cs

-- ---- the order line

-- a missing number that is reached: the smallest is reached, too
far-found : (ps : List Packet) (reach end m k n : ℕ) → among ps m ≡ false → n ≤ m → m < n + k → m + reach ≤ end - 1 → far_below reach end (missing_from ps k n) ≡ true
unfolding missing_from
far-found ps reach end m zero n e l h f = absurd (omega arith)
far-found ps reach end m (suc k) n e l h f = go (among ps n) refl (λ w. far-found ps reach end m k (suc n) e w (omega arith) f)
  where
    go : (b : Bool) → among ps n ≡ b → (suc n ≤ m → far_below reach end (missing_from ps k (suc n)) ≡ true)
        → far_below reach end (elim b [ true ↦ missing_from ps k (suc n) | false ↦ Some n ]) ≡ true
    go true t i = i (by-same n m (λ w. absurd (false≢true (sym e ∙ ap (among ps) (sym w) ∙ t))) (λ w. omega (arith, w)))
    go false t i = le-leb (n + reach) (end - 1) (omega arith)

-- how far R reaches: "An R above 1,023 acts as 1,023"
abbrev acts : ℕ → ℕ
acts r = min r 1023

within_both : (m low to end : ℕ) → low ≤ m → m < to → m < end → m < low + (min to end - low)
within_both m low to end a b c = let d : m + 1 ≤ min to end = le-min (omega arith) (omega arith) in omega arith

order-holds : (floor : ℕ) (ps : List Packet) (r n highest acknowledged end m : ℕ) → 2 ≤ r → floor ≤ m → among ps m ≡ false
    → acknowledged ≤ m + acts r → m + acts r < end → end ≤ largest ps → order_of floor ps r n highest acknowledged end ≡ true
unfolding order_of smallest_missing
order-holds floor ps zero n highest acknowledged end m a f e l h w = absurd (omega arith)
order-holds floor ps (suc zero) n highest acknowledged end m a f e l h w = absurd (omega arith)
order-holds floor ps (suc (suc r)) n highest acknowledged end m a f e l h w =
    let reach : ℕ = acts (suc (suc r)) in
    let p : 1 ≤ reach = le-min (omega arith) (omega arith) in
    let low : ℕ = max (acknowledged - reach) floor in
    let u : low ≤ m = max-le (omega arith) f in
    far-found ps reach end m (min (end - 1) (largest ps) - low) low e u (within_both m low (end - 1) (largest ps) u (omega arith) (omega arith)) (omega arith)

-- ---- the cause

-- the order line sets a cause, where count did not
pick-set : (a b : Bool) (k : ℕ) → b ≡ true → pick a 2 (pick b 3 k) ≡ 0 → ⊥
pick-set true b k e z = omega arith
pick-set false true k e z = omega arith
pick-set false false k e z = false≢true e

-- a standing cause stays
stands : (cause new : ℕ) → (cause ≡ 0 → ⊥) → standing cause new ≡ 0 → ⊥
stands zero new f z = f refl
stands (suc cause) new f z = omega arith

-- where none stands the new one is set
sets : (cause new : ℕ) → (new ≡ 0 → ⊥) → standing cause new ≡ 0 → ⊥
sets zero new f z = f z
sets (suc cause) new f z = omega arith

cause-set : (o : Receiver) (cs : Calls) (n : ℕ) (time : Micros) (mark : Mark) (m : ℕ) → 2 ≤ r_in_force o cs
    → floor_in (cs then packet n time true mark) ≤ m
    → among (packets (cs then packet n time true mark)) m ≡ false
    → largest (before cs) ≤ m + acts (r_in_force o cs)
    → m + acts (r_in_force o cs) < largest (eliciting_of (since (cs then packet n time true mark)))
    → of_packet o cs n time mark ≡ 0 → ⊥
unfolding r_in_force
cause-set o cs n time mark m a f e l h z =
    let values : Agreed = in_force o.agreed (frames cs) in
    let now : Calls = cs then packet n time true mark in
    let w : largest (eliciting_of (since now)) ≤ largest (packets now) = le_trans (pending-below now) (highest-below (packets now)) in
    pick-set (ltb values.threshold (pending_of now).count) _ _
    (order-holds (floor_in now) (packets now) values.reordering n (largest (eliciting_of (packets cs))) (largest (before cs)) (largest (eliciting_of (since now))) m a f e l h w)
    (sym (due-is.numbers o cs n time mark) ∙ z)

-- ---- along the accepted calls

-- the statement for one number, with the largest of the ack-eliciting packets
abbrev Holds : Receiver → Calls → ℕ → Type 0
Holds o cs m =
    2 ≤ r_in_force o cs → floor_in cs ≤ m → among (packets cs) m ≡ false
    → m + acts (r_in_force o cs) < largest (eliciting_of (under_same_r o cs)) → (due o cs ≡ 0 → ⊥) ⊎ (m + acts (r_in_force o cs) < written_up_to cs)

-- a cause that stands already goes on
carried : {X : Type 0} (cause new : ℕ) → (cause ≡ 0 → ⊥) ⊎ X → (standing cause new ≡ 0 → ⊥) ⊎ X
carried cause new (inl f) = inl (stands cause new f)
carried cause new (inr x) = inr x

-- U is at least this packet
new-below : (cs : Calls) (n : ℕ) (time : Micros) (mark : Mark) → n < largest (eliciting_of (since (cs then packet n time true mark)))
unfolding since
new-below cs n time mark = omega (arith, eliciting-largest n time mark (since cs), le-max_right (largest (eliciting_of (since cs))) (n + 1))

-- what is above a packet is above those before it
earlier : (n : ℕ) (time : Micros) (mark : Mark) (ps : List Packet) (k : ℕ) → n < k → k < largest (eliciting_of (packet_of n time true mark ∷ ps)) → k < largest (eliciting_of ps)
earlier n time mark ps k l h =
    split (largest (eliciting_of ps)) k
    (λ u. let v : max (largest (eliciting_of ps)) (n + 1) ≤ k = max-le u (omega arith) in absurd (omega (arith, eliciting-largest n time mark ps, v, h)))
    (λ u. u)

-- an ack-eliciting packet
on-eliciting : (o : Receiver) (cs : Calls) (n : ℕ) (time : Micros) (mark : Mark) (m : ℕ) → Holds o cs m → Holds o (cs then packet n time true mark) m
unfolding r_in_force frames packets before under_same_r written_up_to due
on-eliciting o cs n time mark m i a f e h =
    let p : Packet = packet_of n time true mark in
    let r : ℕ = acts (r_in_force o cs) in
    let g : floor_in cs ≤ m = le_trans (floor-grows o cs n time true mark) f in
    let x : among (packets cs) m ≡ false = still-missing p (packets cs) m e in
    split (m + r) n
    (λ u. split (largest (before cs)) (m + r)
    (λ v. inl (sets (due o cs) (of_packet o cs n time mark) (cause-set o cs n time mark m a f e v (omega (arith, u, new-below cs n time mark)))))
    (λ v. inr (omega (arith, v, acknowledged-written cs))))
    (λ u. carried (due o cs) (of_packet o cs n time mark) (i a g x (earlier n time mark (under_same_r o cs) (m + r) u h)))

-- any other packet
on-other : (o : Receiver) (cs : Calls) (n : ℕ) (time : Micros) (mark : Mark) (m : ℕ) → Holds o cs m → Holds o (cs then packet n time false mark) m
unfolding r_in_force frames packets before under_same_r written_up_to due eliciting_of
on-other o cs n time mark m i a f e h =
    let p : Packet = packet_of n time false mark in
    i a (le_trans (floor-grows o cs n time false mark) f) (still-missing p (packets cs) m e) h

-- a threshold frame: r is R after it
on-threshold : (o : Receiver) (cs : Calls) (m r : ℕ) (same : Bool) → eqb r (r_in_force o cs) ≡ same → Holds o cs m → 2 ≤ r
    → floor_in cs ≤ m → among (packets cs) m ≡ false → m + acts r < largest (eliciting_of (pick same (under_same_r o cs) []))
    → (due o cs ≡ 0 → ⊥) ⊎ (m + acts r < written_up_to cs)
on-threshold o cs m r true t i a f e h =
    let w : r_in_force o cs ≡ r = sym (eqb-true r (r_in_force o cs) t) in (rw w at i) a f e h
on-threshold o cs m r false t i a f e h = absurd (omega (arith, none_below 0, h))

holds : (o : Receiver) (cs : Calls) (m : ℕ) → Holds o cs m
unfolding frames packets before under_same_r same_r written_up_to due r_in_force confirmed_of
holds o none m a f e h = absurd (omega (arith, none_below 0, h))
holds o (cs then packet n time true mark) m a f e h = on-eliciting o cs n time mark m (holds o cs m) a f e h
holds o (cs then packet n time false mark) m a f e h = on-other o cs n time mark m (holds o cs m) a f e h
holds o (cs then timer time) m a f e h = carried (due o cs) (pick (timer_due (known o cs) time) 5 0) (holds o cs m a f e h)
holds o (cs then immediate) m a f e h = carried (due o cs) 1 (holds o cs m a f e h)
holds o (cs then threshold s t d q) m a f e h = on-threshold o cs m (r_in_force o (cs then threshold s t d q)) _ refl (holds o cs m) a f e h
holds o (cs then write time kind room) m a f e h = inr (omega (arith, h, under-below o cs, le-max_right (written_up_to cs) (largest (packets cs))))
holds o (cs then confirm k) m a f e h = holds o cs m a (le_trans (floor-raised cs k) f) e h

-- ---- the theorem

module _ (t q : ℕ) (x : Millis) (u : Micros) (cs : Calls) where
  abbrev o : Receiver
  o = opening t q x u

  abbrev acc : Calls
  acc = accepted_of (opening t q x u) cs

  for-all : (m : ℕ) → 2 ≤ r_in_force o acc → floor_in acc ≤ m → among (packets acc) m ≡ false → (n : ℕ) → among (eliciting_of (under_same_r o acc)) n ≡ true
      → m + acts (r_in_force o acc) ≤ n → (due o acc ≡ 0 → ⊥) ⊎ (m + acts (r_in_force o acc) < written_up_to acc)
  for-all m a f e n k h = holds o acc m a f e (omega (arith, h, among_below (eliciting_of (under_same_r o acc)) n k))

pub no-loss : NoLossKeptBack
no-loss =
    record {
      within = λ t q x u cs a b m f l e n k h.
          let w : acts (r_in_force (o t q x u cs) (acc t q x u cs)) ≡ r_in_force (o t q x u cs) (acc t q x u cs) = min-eq_left b in
          rw (← w) (for-all t q x u cs m a f e n k (rw w h));
      above = λ t q x u cs a m f l e n k h.
          let w : acts (r_in_force (o t q x u cs) (acc t q x u cs)) ≡ 1023 = min-eq_right a in
          rw (← w) (for-all t q x u cs m (omega arith) f e n k (rw w h));
    }
