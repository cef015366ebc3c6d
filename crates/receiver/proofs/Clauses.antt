-- The test of consistency is the paper's list of clauses: each test is taken apart into its clause, and put together again.
-- Assumes nothing.
use Prim.Native.Nat.{ℕ, zero, suc, ◌+◌, ◌-◌, ◌≤◌, ◌<◌}
use mathlib.Core.Path.{◌≡◌, refl}
use mathlib.Core.Bool.{Bool, true, false, not, ◌&&◌, ◌||◌}
use mathlib.Core.Logic.{◌↔◌}
use native.Mathlib.Omega.{arith}
use borrow.Author.Tests.{ltb-true, leb-true, eqb-true, eqb-false, lt-ltb, le-leb, eq-eqb, ne_eqb}
use lib.Dec.{leb, ltb, eqb}
use Rattle.wire.specs.Bytes.{pick}
use Rattle.wire.specs.Numbers.{limit, all_small}
use Rattle.frames.specs.Ack.{counts_of}
use Rattle.window.specs.Window.{value_of, is_set, none_below}
use Rattle.window.proofs.Laws.{none-says, none_is}
use Rattle.receiver.specs.declared.Receiver.{Receiver}
use Rattle.seen.specs.declared.Seen.{Seen}
use Rattle.receiver.specs.declared.Limits.{Limits}
use Rattle.receiver.specs.declared.Pending.{Pending}
use Rattle.seen.specs.Numbers.{small, small_end}
use Rattle.seen.specs.Received.{seen_consistent, floor_fits, numbers_obey, marks_consistent}
use Rattle.ecn.specs.declared.Kind.{Kind}
use Rattle.ecn.specs.declared.Kind.TheVariants.{Plain, Counts as WithCounts}
use Rattle.ecn.specs.Totals.{totals_consistent, tail_of}
use Rattle.receiver.specs.Record.{limits_rule, delay_rule, pending_consistent, agreed_consistent, consistent, micros_of}
use Rattle.receiver.specs.Consistent.{Consistent, ConsistentExactly}

-- both sides of a conjunction
left : (a b : Bool) → (a && b) ≡ true → a ≡ true
left true b e = refl
left false b e = e

right : (a b : Bool) → (a && b) ≡ true → b ≡ true
right true b e = e
right false b e = let z : ◌≡◌ {A = ℕ} 0 1 = cc in absurd (omega arith)

join : {a b : Bool} → a ≡ true → b ≡ true → (a && b) ≡ true
join e f = rw (e, f)

-- four tests in a row, and eight
four : (a b c d : Bool) → (a && (b && (c && d))) ≡ true → (a ≡ true) × (b ≡ true) × (c ≡ true) × (d ≡ true)
four a b c d e =
    let f = right a (b && (c && d)) e in
    let g = right b (c && d) f in
    (left a (b && (c && d)) e, left b (c && d) f, left c d g, right c d g)

eight : (a b c d w x y z : Bool) → (a && (b && (c && (d && (w && (x && (y && z))))))) ≡ true
    → (a ≡ true) × (b ≡ true) × (c ≡ true) × (d ≡ true) × (w ≡ true) × (x ≡ true) × (y ≡ true) × (z ≡ true)
eight a b c d w x y z e =
    let f = four a b c (d && (w && (x && (y && z)))) e in
    let g = right d (w && (x && (y && z))) f.3 in
    let k = four w x y z g in
    (f.0, f.1, f.2, left d (w && (x && (y && z))) f.3, k.0, k.1, k.2, k.3)

one_more : (n : ℕ) → eqb (suc n) 0 ≡ false
one_more n = ne_eqb (suc n) 0 (λ e. omega arith)

-- "U is absent exactly when N is 0", as the test has it
absent-says : (n u : ℕ) → pick (eqb n 0) (eqb u 0) (not (eqb u 0)) ≡ true → (u ≡ 0) ↔ (n ≡ 0)
absent-says n u e = go (eqb n 0) (eqb u 0) refl refl e
  where
    go : (a b : Bool) → eqb n 0 ≡ a → eqb u 0 ≡ b → pick a b (not b) ≡ true → (u ≡ 0) ↔ (n ≡ 0)
    go true true p q e = (λ h. eqb-true n 0 p, λ h. eqb-true u 0 q)
    go false false p q e = (λ h. absurd (eqb-false u 0 q h), λ h. absurd (eqb-false n 0 p h))
    go true false p q e = let z : ◌≡◌ {A = ℕ} 0 1 = cc in absurd (omega arith)
    go false true p q e = let z : ◌≡◌ {A = ℕ} 0 1 = cc in absurd (omega arith)

absent-is : (n u : ℕ) → (u ≡ 0) ↔ (n ≡ 0) → pick (eqb n 0) (eqb u 0) (not (eqb u 0)) ≡ true
absent-is zero zero f = refl
absent-is zero (suc u) f = let z : suc u ≡ 0 = f.1 refl in absurd (omega arith)
absent-is (suc n) zero f = let z : suc n ≡ 0 = f.0 refl in absurd (omega arith)
absent-is (suc n) (suc u) f = rw (one_more n, one_more u)

-- the cause's range
cause-says : (e c : ℕ) → pick (eqb e 0) (eqb c 0) (leb c 5) ≡ true → (c ≤ 5) × (e ≡ 0 → c ≡ 0)
cause-says zero c t = let z : c ≡ 0 = eqb-true c 0 t in (omega arith, λ h. z)
cause-says (suc e) c t = (leb-true c 5 (rw (one_more e) at t), λ h. absurd (omega arith))

cause-is : (e c : ℕ) → c ≤ 5 → (e ≡ 0 → c ≡ 0) → pick (eqb e 0) (eqb c 0) (leb c 5) ≡ true
cause-is zero c l f = eq-eqb c 0 (f refl)
cause-is (suc e) c l f = rw (one_more e) (le-leb c 5 l)

-- L's own place
own-says : (e : ℕ) (b : Bool) → (eqb e 0 || b) ≡ true → 0 < e → b ≡ true
own-says zero b t h = absurd (omega arith)
own-says (suc e) b t h = rw (one_more e) at t

own_is : (e : ℕ) (b : Bool) → (0 < e → b ≡ true) → (eqb e 0 || b) ≡ true
own_is zero b f = refl
own_is (suc e) b f = rw (one_more e) (f (omega arith))

says : (r : Receiver) → consistent r ≡ true → Consistent r
unfolding consistent seen_consistent pending_consistent agreed_consistent totals_consistent limits_rule delay_rule
says r e =
    let s : Seen = r.seen in
    let p : Pending = r.pending in
    let w : ℕ = value_of s.window in
    let k =
    eight (seen_consistent s) (pending_consistent p s.end) (limits_rule r.limits) (agreed_consistent r.agreed r.limits) (totals_consistent r.totals) (leb r.acknowledged s.end) (leb r.highest s.end)
    (pick (eqb s.end 0) (eqb r.cause 0) (leb r.cause 5)) e in
    let kn = left (numbers_obey s) (marks_consistent s) k.0 in
    let ks = right (small_end s.end) (small s.arrived.0 && floor_fits s) kn in
    let km = right (numbers_obey s) (marks_consistent s) k.0 in
    let kp = four (small_end p.count) (small p.first.0) (leb p.end s.end) (pick (eqb p.count 0) (eqb p.end 0) (not (eqb p.end 0))) k.1 in
    let ka = four (small r.agreed.threshold) (small r.agreed.reordering) (small_end r.agreed.sequence) (delay_rule r.limits r.agreed.delay) k.3 in
    let m : Bool = leb r.limits.minimum.0 (micros_of r.limits.maximum).0 in
    let d : Bool = leb r.limits.minimum.0 r.agreed.delay.0 in
    let kt = four (small r.totals.ect0) (small r.totals.ect1) (small r.totals.ce) (small r.totals.unmarked) k.4 in
    let kc = cause-says s.end r.cause k.7 in
    record {
      largest = leb-true _ _ (left (small_end s.end) (small s.arrived.0 && floor_fits s) kn);
      arrived = leb-true _ _ (left (small s.arrived.0) (floor_fits s) ks);
      first = leb-true _ _ kp.1;
      threshold = leb-true _ _ ka.0;
      reordering = leb-true _ _ ka.1;
      sequence = leb-true _ _ ka.2;
      count = leb-true p.count (limit + 1) kp.0;
      maximum = ltb-true _ _ (left (ltb r.limits.maximum.0 16384) m k.2);
      minimum = leb-true _ _ (right (ltb r.limits.maximum.0 16384) m k.2);
      delay = ltb-true _ _ (left (ltb r.agreed.delay.0 16384000) d ka.3);
      least = leb-true _ _ (right (ltb r.agreed.delay.0 16384000) d ka.3);
      cause = kc.0;
      acknowledged = leb-true _ _ k.5;
      highest = leb-true _ _ k.6;
      unacknowledged = leb-true _ _ kp.2;
      absent = absent-says p.count p.end kp.3;
      own = own-says s.end (is_set w 1023) (right (none_below (1024 - s.end) w) (eqb s.end 0 || is_set w 1023) km);
      below = none-says (1024 - s.end) w (left (none_below (1024 - s.end) w) (eqb s.end 0 || is_set w 1023) km);
      floor = leb-true _ _ (right (small s.arrived.0) (floor_fits s) ks);
      totals = (leb-true _ _ kt.0, leb-true _ _ kt.1, leb-true _ _ kt.2, leb-true _ _ kt.3);
      nothing = kc.1;
    }

-- the tests that are made of several clauses
pub marks-hold : (r : Receiver) → Consistent r → marks_consistent r.seen ≡ true
marks-hold r k =
    let w : ℕ = value_of r.seen.window in
    join (none_is (1024 - r.seen.end) w k.below) (own_is r.seen.end (is_set w 1023) k.own)

pub limits-hold : (r : Receiver) → Consistent r → limits_rule r.limits ≡ true
unfolding limits_rule
limits-hold r k = join (lt-ltb _ _ k.maximum) (le-leb _ _ k.minimum)

pub agreed-holds : (r : Receiver) → Consistent r → agreed_consistent r.agreed r.limits ≡ true
unfolding agreed_consistent delay_rule
agreed-holds r k =
    join (le-leb _ _ k.threshold) (join (le-leb _ _ k.reordering) (join (le-leb _ _ k.sequence) (join (lt-ltb _ _ k.delay) (le-leb _ _ k.least))))

pub numbers-hold : (r : Receiver) → Consistent r → numbers_obey r.seen ≡ true
numbers-hold r k = join (le-leb _ _ k.largest) (join (le-leb _ _ k.arrived) (le-leb _ _ k.floor))

pub pending-holds : (r : Receiver) → Consistent r → pending_consistent r.pending r.seen.end ≡ true
unfolding pending_consistent
pending-holds r k =
    let p : Pending = r.pending in
    join (le-leb p.count (limit + 1) k.count) (join (le-leb _ _ k.first) (join (le-leb _ _ k.unacknowledged) (absent-is p.count p.end k.absent)))

pub totals-hold : (r : Receiver) → Consistent r → totals_consistent r.totals ≡ true
unfolding totals_consistent
totals-hold r k =
    let t = k.totals in
    join (le-leb _ _ t.0) (join (le-leb _ _ t.1) (join (le-leb _ _ t.2) (le-leb _ _ t.3)))

-- so the counts of an ACK obey 5
pub counts-hold : (r : Receiver) (kind : Kind) → consistent r ≡ true → all_small (counts_of (tail_of kind r.totals)) ≡ true
unfolding all_small
counts-hold r Plain e = refl
counts-hold r WithCounts e =
    let t = (says r e).totals in
    rw (le-leb r.totals.ect0 limit t.0, le-leb r.totals.ect1 limit t.1, le-leb r.totals.ce limit t.2)

is : (r : Receiver) → Consistent r → consistent r ≡ true
unfolding consistent seen_consistent
is r k =
    join (join (numbers-hold r k) (marks-hold r k))
    (join (pending-holds r k)
    (join (limits-hold r k)
    (join (agreed-holds r k)
    (join (totals-hold r k)
    (join (le-leb _ _ k.acknowledged) (join (le-leb _ _ k.highest) (cause-is r.seen.end r.cause k.cause k.nothing)))))))

pub consistent-exactly : ConsistentExactly
consistent-exactly r = (says r, is r)

-- own limits that are allowed can be converted
pub allowed-below : (l : Limits) → limits_rule l ≡ true → l.maximum.0 < 16384
unfolding limits_rule
allowed-below l e = ltb-true _ _ (left (ltb l.maximum.0 16384) (leb l.minimum.0 (micros_of l.maximum).0) e)
