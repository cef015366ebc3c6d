-- 2 is given to a short record and 3 to an unknown kind, and to nothing else: the receiver's calls give neither number.
-- Assumes nothing.
use Prim.Native.Nat.{ℕ, suc, ◌≤◌, ◌<◌}
use mathlib.Core.Path.{◌≡◌, refl, sym, ap, ◌∙◌}
use mathlib.Core.Bool.{Bool, true, false}
use mathlib.Core.List.{List, [], ◌∷◌}
use native.Mathlib.Decide.{dec_le}
use native.Mathlib.Nat.{lt_of_not-le}
use native.Mathlib.Omega.{arith}
use borrow.Author.Tests.{ne_eqb, eqb-false}
use lib.Dec.{eqb}
use lib.ListN.{length, get_or, take, drop}
use Rattle.wire.specs.Bytes.{pick, be}
use Rattle.seen.specs.declared.Micros.{Micros}
use Rattle.receiver.specs.declared.Receiver.{Receiver}
use Rattle.receiver.specs.declared.Answer.{Answer}
use Rattle.ecn.specs.declared.Kind.TheVariants.{Plain as Kind02}
use Rattle.receiver.specs.Packet.{packet_call}
use Rattle.receiver.specs.Calls.{timer_call, immediate_call}
use Rattle.receiver.specs.Exactly.{Row, first, packet_rows, timer_rows, immediate_rows}
use Rattle.receiver.specs.Emits.{write_rows}
use Rattle.receiver.proofs.Exactly.{exactly, unchanged}
use Rattle.receiver.proofs.Emits.{write-exactly, write-leaves}
use Rattle.events.specs.declared.Event.{Event}
use Rattle.events.specs.Events.{room, is_eliciting, ecn_mark, write_call, event_call, read_call, record_call}
use Rattle.events.specs.Exactly.{Known, Exactly, RecordsExactly}
use Rattle.events.proofs.Reading.{short, whole}

-- whether a row of the list has the number
abbrev numbered : ℕ → List Row → Bool
numbered k [] = false
numbered k (x ∷ rows) = pick (eqb x.number k) true (numbered k rows)

-- a number that no row has is not given
absent : (k : ℕ) (rows : List Row) → numbered (suc k) rows ≡ false → first rows ≡ suc k → ⊥
unfolding first
absent k [] h e = omega arith
absent k (x ∷ rows) h e = go x.applies (eqb x.number (suc k)) refl h e (absent k rows)
  where
    go : (a b : Bool) → eqb x.number (suc k) ≡ b → pick b true (numbered (suc k) rows) ≡ false → pick a x.number (first rows) ≡ suc k
        → (numbered (suc k) rows ≡ false → first rows ≡ suc k → ⊥) → ⊥
    go true false p h e f = eqb-false x.number (suc k) p e
    go false false p h e f = f h e
    go a true p h e f = let z : ◌≡◌ {A = ℕ} 0 1 = cc in omega arith

-- an answer of the receiver to r
record Plain (a : Answer) (r : Receiver) : Type 0 where
  two : a.result ≡ 2 → ⊥
  three : a.result ≡ 3 → ⊥
  untouched : (a.result ≡ 0 → ⊥) → a.next ≡ r

plain : (a : Answer) (r : Receiver) (rows : List Row) → a.result ≡ first rows → numbered 2 rows ≡ false → numbered 3 rows ≡ false
    → ((a.result ≡ 0 → ⊥) → a.next ≡ r) → Plain a r
plain a r rows e p q k = record { two = λ h. absent 1 rows p (sym e ∙ h); three = λ h. absent 2 rows q (sym e ∙ h); untouched = k }

plain-write : (r : Receiver) (time : Micros) → Plain (write_call r time) r
unfolding write_call
plain-write r time = plain (write_call r time) r (write_rows r time Kind02 1200) (write-exactly r time Kind02 room) refl refl (λ h. ((write-leaves r time Kind02 room).unchanged h).0)

known : (e : Event) (r : Receiver) → Known e.kind → Plain (event_call e r) r
unfolding event_call
known e r h = go (eqb e.kind 1) refl (eqb e.kind 2) refl (eqb e.kind 3) refl (eqb e.kind 4) refl
  where
    other : Answer
    other = record { result = 3; next = r }

    go : (a : Bool) → eqb e.kind 1 ≡ a → (b : Bool) → eqb e.kind 2 ≡ b → (c : Bool) → eqb e.kind 3 ≡ c → (d : Bool) → eqb e.kind 4 ≡ d
        → Plain (pick a (packet_call r e.number e.time (is_eliciting e) (ecn_mark e)) (pick b (timer_call r e.time) (pick c (write_call r e.time) (pick d (immediate_call r) other)))) r
    go true p b q c s d t = plain (packet_call r e.number e.time (is_eliciting e) (ecn_mark e)) r (packet_rows r e.number e.time) (exactly.packet r e.number e.time (is_eliciting e) (ecn_mark e)) refl refl (unchanged.packet r e.number e.time (is_eliciting e) (ecn_mark e))
    go false p true q c s d t = plain (timer_call r e.time) r (timer_rows r e.time) (exactly.timer r e.time) refl refl (unchanged.timer r e.time)
    go false p false q true s d t = plain-write r e.time
    go false p false q false s true t = plain (immediate_call r) r (immediate_rows r) (exactly.immediate r) refl refl (unchanged.immediate r)
    go false p false q false s false t =
        absurd (omega (arith, h, eqb-false e.kind 1 p, eqb-false e.kind 2 q, eqb-false e.kind 3 s, eqb-false e.kind 4 t))

unknown : (e : Event) (r : Receiver) → (Known e.kind → ⊥) → event_call e r ≡ record { result = 3; next = r }
unfolding event_call
unknown e r f =
    rw (ne_eqb e.kind 1 (λ p. f (omega arith, omega arith)), ne_eqb e.kind 2 (λ p. f (omega arith, omega arith)), ne_eqb e.kind 3 (λ p. f (omega arith, omega arith)), ne_eqb e.kind 4 (λ p. f (omega arith, omega arith)))

-- ---- the record

differ : (m n : ℕ) {k : ℕ} → k ≡ m → k ≡ n → (m ≡ n → ⊥) → ⊥
differ m n p q f = f (sym p ∙ q)

abbrev event_of : List ℕ → Event
event_of s = record { kind = get_or s 0 0; flags = get_or s 1 0; number = be 0 (take 8 (drop 8 s)); time = record { 0 = be 0 (take 8 (drop 16 s)) } }

module _ (s : List ℕ) (r : Receiver) where
  of-short : length s < 24 → record_call s r ≡ record { result = 2; next = r }
  unfolding record_call
  of-short h = ap (λ f. read_call f r) (sym (short s h))

  of-whole : 24 ≤ length s → record_call s r ≡ event_call (event_of s) r
  unfolding record_call
  of-whole h = ap (λ f. read_call f r) (sym (whole s h refl refl))

  when-short : length s < 24 → Exactly s r
  when-short h =
      let e = of-short h in
      record {
        two = ((λ p. h), (λ p. ap (λ (a : Answer). a.result) e));
        three = ((λ p. absurd (differ 2 3 (ap (λ (a : Answer). a.result) e) p (λ q. omega arith))), (λ p. absurd (omega (arith, p.0))));
        unchanged = λ p. ap (λ (a : Answer). a.next) e;
      }

  when-unknown : 24 ≤ length s → (Known (get_or s 0 0) → ⊥) → Exactly s r
  when-unknown h u =
      let e : record_call s r ≡ record { result = 3; next = r } = of-whole h ∙ unknown (event_of s) r u in
      record {
        two = ((λ p. absurd (differ 3 2 (ap (λ (a : Answer). a.result) e) p (λ q. omega arith))), (λ p. absurd (omega arith)));
        three = ((λ p. (h, u)), (λ p. ap (λ (a : Answer). a.result) e));
        unchanged = λ p. ap (λ (a : Answer). a.next) e;
      }

  when-known : 24 ≤ length s → Known (get_or s 0 0) → Exactly s r
  when-known h k =
      let e = ap (λ (a : Answer). a.result) (of-whole h) in
      let p = known (event_of s) r k in
      record {
        two = ((λ q. absurd (p.two (sym e ∙ q))), (λ q. absurd (omega arith)));
        three = ((λ q. absurd (p.three (sym e ∙ q))), (λ q. absurd (q.1 k)));
        unchanged = λ q. ap (λ (a : Answer). a.next) (of-whole h) ∙ p.untouched (λ z. q (e ∙ z));
      }

pub records-exactly : RecordsExactly
records-exactly s r =
    elim (dec_le 24 (length s)) [
      | yes h ↦ elim (dec_le 1 (get_or s 0 0)) [
        | yes l ↦ elim (dec_le (get_or s 0 0) 4) [ yes m ↦ when-known s r h (l, m) | no m ↦ when-unknown s r h (λ k. m k.1) ]
        | no l ↦ when-unknown s r h (λ k. l k.0)
      ]
      | no h ↦ when-short s r (lt_of_not-le h)
    ]
