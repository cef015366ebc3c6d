-- A record that is taken as one, and records in a row: bytes that leave it unfinished, and bytes that make it whole.
-- Assumes nothing.
use Prim.Native.Nat.{ℕ, suc, ◌+◌, ◌-◌, ◌≤◌, ◌<◌}
use mathlib.Core.Path.{◌≡◌, refl, ap, ◌∙◌}
use mathlib.Core.Bool.{Bool, true, false}
use mathlib.Core.List.{List, [], ◌∷◌, ◌++◌, append-nil}
use native.Mathlib.Omega.{arith}
use borrow.Author.Tests.{lt-ltb, le-ltb}
use lib.Dec.{ltb}
use lib.ListN.{length, length-append}
use lib.Seq.{append_snoc, take_all}
use Rattle.std.specs.Prelude.{Result, Ok, Err}
use Rattle.wire.specs.Bytes.{pick}
use Rattle.wire.specs.declared.Refusal.{Refusal}
use Rattle.entries.specs.Profiles.{record_size}
use Rattle.entries.specs.Entries.{entry_of, at_or_above, follows, records_good}
use Rattle.entries.specs.declared.Profile.{Profile}
use Rattle.entries.specs.declared.Entry.{Entry}
use Rattle.uncut.specs.State.{State, Records}
use Rattle.uncut.specs.Step.{group_in, above_in, after_bad, record_judged, record_grown, record_given, step, given, after, delivered}
use Rattle.uncut.specs.Cutting.{taking}
use Rattle.pieces.specs.Reading.{Key, Good, Bad, key_in, key_of}

-- ---- the key of a record is what the rule of a row says of it

abbrev key_good : Key → Bool
key_good (Good group above) = true
key_good Bad = false

key-rule : (e : Result Entry Refusal) (last above : ℕ) → follows last above e (λ g o. true) ≡ key_good (key_in last above e)
key-rule (Ok e) last above = go (at_or_above last above e.group e.object)
  where
    go : (b : Bool) → pick b true false ≡ key_good (pick b (Good e.group (suc e.object)) Bad)
    go true = refl
    go false = refl
key-rule (Err refusal) last above = refl

never-good : {A : Type 0} {g o : ℕ} → Bad ≡ Good g o → A
never-good e = let z : ◌≡◌ {A = ℕ} 0 1 = cc in absurd (omega arith)

key-parts : (e : Result Entry Refusal) (last above g o : ℕ) → key_in last above e ≡ Good g o → (group_in e ≡ g) × (above_in e ≡ o)
key-parts (Ok entry) last above g o e = go (at_or_above last above entry.group entry.object) e
  where
    go : (b : Bool) → pick b (Good entry.group (suc entry.object)) Bad ≡ Good g o → (entry.group ≡ g) × (suc entry.object ≡ o)
    go true e = (cc, cc)
    go false e = never-good e
key-parts (Err refusal) last above g o e = never-good e

module _ (p : Profile) where
  -- what a whole record brings
  abbrev pub keyed : List ℕ → ℕ → Key → State
  keyed ns n (Good g o) = Records ns n g o []
  keyed ns n Bad = after_bad p ns n

  abbrev pub key_given : Key → List ℕ → List ℕ
  key_given (Good g o) r = r
  key_given Bad r = []

  module _ (ns : List ℕ) (n last above : ℕ) (r : List ℕ) (h : length r ≡ record_size p) where
    rule : records_good p 1 last above r ≡ key_good (key_of p last above r)
    unfolding records_good key_of
    rule = ap (λ (x : List ℕ). follows last above (entry_of p x) (λ g o. true)) (take_all (record_size p) r (omega arith)) ∙ key-rule (entry_of p r) last above

    judged-key : record_judged p ns n last above r ≡ keyed ns n (key_of p last above r)
    unfolding record_judged key_of
    judged-key = rw rule (go (key_in last above (entry_of p r)) refl)
      where
        go : (k : Key) → key_in last above (entry_of p r) ≡ k → pick (key_good k) (Records ns n (group_in (entry_of p r)) (above_in (entry_of p r)) []) (after_bad p ns n) ≡ keyed ns n k
        go (Good g o) e = let q = key-parts (entry_of p r) last above g o e in rw (q.0, q.1)
        go Bad e = refl

    given-key : pick (records_good p 1 last above r) r [] ≡ key_given (key_of p last above r) r
    given-key = rw rule (go (key_of p last above r))
      where
        go : (k : Key) → pick (key_good k) r [] ≡ key_given k r
        go (Good g o) = refl
        go Bad = refl

  -- ---- bytes of one record, where the buffer has room for it

  pub record Rowed (room : ℕ) (st : State) (s : List ℕ) (st' : State) (d : List ℕ) : Type 0 where
    pub comes : after p st s ≡ st'
    pub gives : delivered p st s ≡ d
    pub takes : taking p room st s ≡ length s

  rowed-none : (room : ℕ) (st : State) → Rowed room st [] st []
  unfolding after delivered taking
  rowed-none room st = record { comes = refl; gives = refl; takes = refl }

  module _ (ns : List ℕ) (n last above room : ℕ) (f : record_size p ≤ room) where
    -- a byte that leaves it unfinished
    rowed-more : (held : List ℕ) (b : ℕ) (bs : List ℕ) (st : State) (d : List ℕ) → length (held ++ (b ∷ [])) < record_size p
        → Rowed room (Records ns (suc n) last above (held ++ (b ∷ []))) bs st d → Rowed room (Records ns (suc n) last above held) (b ∷ bs) st d
    unfolding after delivered taking step given record_grown record_given
    rowed-more held b bs st d h c =
        let t : ltb (length (held ++ (b ∷ []))) (record_size p) ≡ true = lt-ltb (length (held ++ (b ∷ []))) (record_size p) h in
        let z : room - 0 ≡ room = omega arith in
        record {
          comes = rw t c.comes;
          gives = rw t c.gives;
          takes = rw (le-ltb room (record_size p) f, t, z) (ap suc c.takes);
        }

    -- the byte that makes it whole
    rowed-last : (held : List ℕ) (b : ℕ) → length (held ++ (b ∷ [])) ≡ record_size p
        → Rowed room (Records ns (suc n) last above held) (b ∷ []) (keyed ns n (key_of p last above (held ++ (b ∷ [])))) (key_given (key_of p last above (held ++ (b ∷ []))) (held ++ (b ∷ [])))
    unfolding after delivered taking step given record_grown record_given
    rowed-last held b h =
        let t : ltb (length (held ++ (b ∷ []))) (record_size p) ≡ false = le-ltb (length (held ++ (b ∷ []))) (record_size p) (omega arith) in
        record {
          comes = rw t (judged-key ns n last above (held ++ (b ∷ [])) h);
          gives = rw (t, append-nil) (given-key ns n last above (held ++ (b ∷ [])) h);
          takes = rw (le-ltb room (record_size p) f);
        }

    pub rowed-short : (held chunk : List ℕ) → length held + length chunk < record_size p
        → Rowed room (Records ns (suc n) last above held) chunk (Records ns (suc n) last above (held ++ chunk)) []
    rowed-short held [] h = rw append-nil (rowed-none room (Records ns (suc n) last above held))
    rowed-short held (b ∷ bs) h =
        let l : length (held ++ (b ∷ [])) ≡ length held + 1 = length-append held (b ∷ []) in
        let m = rowed-short (held ++ (b ∷ [])) bs (omega arith) in
        rowed-more held b bs (Records ns (suc n) last above (held ++ (b ∷ bs))) [] (omega arith) (rw append_snoc at m)

    pub rowed-whole : (held chunk : List ℕ) → 0 < length chunk → length held + length chunk ≡ record_size p
        → Rowed room (Records ns (suc n) last above held) chunk (keyed ns n (key_of p last above (held ++ chunk))) (key_given (key_of p last above (held ++ chunk)) (held ++ chunk))
    rowed-whole held [] q h = absurd (omega arith)
    rowed-whole held (b ∷ []) q h = rowed-last held b (length-append held (b ∷ []) ∙ omega arith)
    rowed-whole held (b ∷ x ∷ bs) q h =
        let l : length (held ++ (b ∷ [])) ≡ length held + 1 = length-append held (b ∷ []) in
        let r : List ℕ = held ++ (b ∷ x ∷ bs) in
        let m = rowed-whole (held ++ (b ∷ [])) (x ∷ bs) (omega arith) (omega arith) in
        rowed-more held b (x ∷ bs) (keyed ns n (key_of p last above r)) (key_given (key_of p last above r) r) (omega arith) (rw append_snoc at m)
