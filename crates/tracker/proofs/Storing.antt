-- Entries laid one after the other over a lent buffer.
-- Assumes nothing.
use Prim.Native.Nat.{ℕ, zero, suc, ◌+◌, ◌-◌, ◌*◌, ◌≤◌, ◌<◌}
use mathlib.Core.Path.{◌≡◌, refl, sym, ap, ◌∙◌}
use mathlib.Core.List.{List, [], ◌∷◌, ◌++◌}
use native.Mathlib.Nat.{add-zero}
use native.Mathlib.Numerals.{add-one}
use native.Mathlib.Omega.{arith}
use borrow.Author.Tests.{lt-ltb, le-ltb}
use lib.ListN.{length, length-take, length-drop, length-append, take-append-drop}
use Rattle.wire.specs.Bytes.{splice}
use Rattle.wire.specs.Fields.{fixed, written}
use Rattle.wire.proofs.Bytes.{splice-splice}
use Rattle.wire.proofs.Writing.{placed-yes}
use Rattle.entries.specs.Entries.{status_number}
use Rattle.entries.specs.declared.Status.{Status}
use Rattle.entries.specs.declared.Status.TheVariants.{Received, Late, NotReceived, Partial}
use Rattle.tracker.specs.Known.{most_objects, Known}
use Rattle.tracker.specs.Status.{no_status, since_of, age_of, entry_bytes, bytes_at, entries_from}
use Rattle.tracker.proofs.Walks.{remains, none-remains}

pub length-splice : (xs ys : List ℕ) (at : ℕ) → at + length ys ≤ length xs → length (splice xs at ys) ≡ length xs
length-splice xs ys at h = simp (length-append, length-take, length-drop) (omega arith)

-- ---- one entry in three fields

pub status-known : (status : Status) → status_number status < no_status
status-known Received = omega arith
status-known Late = omega arith
status-known NotReceived = omega arith
status-known Partial = omega arith

-- the status and the three zero bytes are one field of four bytes
status-field : (status : ℕ) → status < no_status → fixed 4 (status * 16777216) ≡ status ∷ 0 ∷ 0 ∷ 0 ∷ []
status-field zero h = refl
status-field (suc zero) h = refl
status-field (suc (suc zero)) h = refl
status-field (suc (suc (suc zero))) h = refl
status-field (suc (suc (suc (suc n)))) h = absurd (omega arith)

-- bytes written after bytes
written_after : (xs ys zs : List ℕ) (at : ℕ) {a b : List ℕ} → at + length ys + length zs ≤ length xs → a ≡ splice xs at ys → b ≡ written a (at + length ys) zs
    → b ≡ splice xs at (ys ++ zs)
written_after xs ys zs at h e f =
    let l : length (splice xs at ys) ≡ length xs = length-splice xs ys at (omega arith) in
    let p = placed-yes (splice xs at ys) (at + length ys) zs (omega arith) in
    rw e at f ∙ sym p.1 ∙ splice-splice xs ys zs at (omega arith)

pub entry-stored : (xs : List ℕ) (at object status age : ℕ) {a b c : List ℕ} → at + 16 ≤ length xs → status < no_status
    → a ≡ written xs at (fixed 8 object) → b ≡ written a (at + 8) (fixed 4 (status * 16777216)) → c ≡ written b (at + 12) (fixed 4 age)
    → c ≡ splice xs at (entry_bytes object status age)
entry-stored xs at object status age h known e f g =
    let p = placed-yes xs at (fixed 8 object) (omega arith) in
    let two = written_after xs (fixed 8 object) (fixed 4 (status * 16777216)) at (omega arith) (e ∙ sym p.1) f in
    written_after xs (fixed 8 object ++ (status ∷ 0 ∷ 0 ∷ 0 ∷ [])) (fixed 4 age) at (omega arith)
    (two ∙ ap (λ (m : List ℕ). splice xs at (fixed 8 object ++ m)) (status-field status known)) g

-- ---- the entries to come

-- those from a place on, as many as remain
abbrev pub rest : (ℕ → ℕ) → Known → ℕ → ℕ → List ℕ
rest status k time place = entries_from status k time (most_objects - place) place

-- the buffer where the entries to come belong at a place of it: they fit, and laid there they give the whole
pub record Laying (status : ℕ → ℕ) (k : Known) (time place at room : ℕ) (xs whole : List ℕ) : Type 0 where
  pub same : length xs ≡ room
  pub fits : at + length (rest status k time place) ≤ length xs
  pub gives : splice xs at (rest status k time place) ≡ whole

pub laying-starts : (status : ℕ → ℕ) (k : Known) (time : ℕ) (xs : List ℕ) → length (rest status k time 0) ≤ length xs
    → Laying status k time 0 0 (length xs) xs (splice xs 0 (rest status k time 0))
laying-starts status k time xs h = record { same = refl; fits = omega arith; gives = refl }

module _ (status : ℕ → ℕ) (k : Known) (time place : ℕ) (h : place < most_objects) {s : ℕ} (e : s ≡ status place) {at room : ℕ} {xs whole : List ℕ} (now : Laying status k time place at room xs whole) where
  rest-splits : rest status k time place ≡ bytes_at k time (status place) place ++ rest status k time (place + 1)
  unfolding entries_from
  rest-splits = rw (remains place h, add-one place)

  -- no entry: nothing is laid
  pub lay-none : {at' : ℕ} {new : List ℕ} → no_status ≤ s → new ≡ xs → at' ≡ at → Laying status k time (place + 1) at' room new whole
  lay-none n f g =
      let same_rest : rest status k time place ≡ rest status k time (place + 1) = rest-splits ∙ rw (le-ltb (status place) no_status (rw e at n)) in
      rw (f, g) (record { same = now.same; fits = omega (arith, ap length same_rest, now.fits); gives = ap (splice xs at) (sym same_rest) ∙ now.gives })

  -- an entry: its record is laid, and 16 bytes behind it those to come
  module _ {age : ℕ} (known : s < no_status) (old : age ≡ age_of s time (since_of (k.became place))) where
    rest-longer : rest status k time place ≡ entry_bytes (k.first + place) s age ++ rest status k time (place + 1)
    rest-longer = rest-splits ∙ rw (← e, lt-ltb s no_status known, old)

    pub room-here : at + 16 + length (rest status k time (place + 1)) ≤ length xs
    room-here = omega (arith, now.fits, ap length rest-longer, length-append (entry_bytes (k.first + place) s age) (rest status k time (place + 1)))

    pub lay-one : {at' : ℕ} {new : List ℕ} → new ≡ splice xs at (entry_bytes (k.first + place) s age) → at' ≡ at + 16 → Laying status k time (place + 1) at' room new whole
    lay-one f g =
        let l = length-splice xs (entry_bytes (k.first + place) s age) at (omega (arith, room-here)) in
        rw (f, g)
        (record {
          same = l ∙ now.same;
          fits = omega (arith, room-here, l);
          gives = splice-splice xs (entry_bytes (k.first + place) s age) (rest status k time (place + 1)) at (omega (arith, room-here)) ∙ ap (splice xs at) (sym rest-longer) ∙ now.gives;
        })

pub rest-done : (status : ℕ → ℕ) (k : Known) (time place : ℕ) (xs : List ℕ) (at : ℕ) → most_objects ≤ place → splice xs at (rest status k time place) ≡ xs
unfolding entries_from
rest-done status k time place xs at h = rw (none-remains place h, add-zero) (take-append-drop at xs)
