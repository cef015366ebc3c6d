-- The header's numbers, one turn after the other: the bytes taken so far lead to the numbers that were read.
-- Assumes nothing.
use Prim.Native.Nat.{ℕ, zero, suc, ◌+◌, ◌-◌, ◌≤◌, ◌<◌, zero-le}
use mathlib.Core.Path.{◌≡◌, refl, sym, ap, ap₂, ◌∙◌}
use mathlib.Core.Bool.{Bool, true, false}
use mathlib.Core.List.{List, [], ◌∷◌, ◌++◌}
use native.Mathlib.Numerals.{add-one}
use native.Mathlib.Omega.{arith}
use borrow.Author.Tests.{le-leb, lt-leb, ne_eqb}
use lib.Dec.{eqb}
use lib.ListN.{length, get_or, take, drop, set, length-append, length-drop, length-set, take-append-drop}
use lib.Seq.{length-take-le, take_all, take-suc-set, take-add, take-append-add, take-append-le, drop-nil, get_or-take, get_or-drop}
use Rattle.wire.specs.Bytes.{pick}
use Rattle.wire.proofs.Lengths.{split}
use Rattle.wire.specs.Numbers.{read_number}
use Rattle.std.specs.Prelude.{Ok, Err}
use Rattle.wire.specs.Fields.{found}
use Rattle.wire.specs.Refusals.{number_of}
use Rattle.wire.specs.declared.Refusal.{Refusal}
use Rattle.wire.specs.declared.Refusal.TheVariants.{Ends}
use Rattle.entries.specs.declared.Profile.{Profile}
use Rattle.report.specs.Header.{judge_field, wanted_of, count_of}
use Rattle.report.proofs.Following.{wanted-most}
use Rattle.uncut.specs.State.{State, Numbers, Records, Counting, Refused, Accepted}
use Rattle.uncut.specs.Step.{with_number}
use Rattle.pieces.specs.Record.{Stand, Moved, state_as, state_in}
use Rattle.pieces.specs.Reading.{moved_to}
use Rattle.pieces.specs.Serving.{Ready, Sits, Served, Past}
use Rattle.uncut.proofs.Grown.{never-value, value_there, value-place, still-there}
use Rattle.pieces.proofs.Prefix.{read-prefix, ends-short, Behind}
use Rattle.pieces.proofs.Going.{Chunk, chunk-none, chunk-then, served-chunk}
use Rattle.pieces.proofs.Fielding.{judged, chunk-ends, chunk_whole}
use Rattle.pieces.proofs.Keeping.{ready-after, count-last}
use Rattle.pieces.proofs.Stages.{at-numbers, at_records, at-refused}

module _ (p : Profile) (st : State) (part held : List ℕ) where
  pub record Numbering (at count : ℕ) (numbers : List ℕ) (carried : ℕ) : Type 0 where
    pub within : at ≤ length part
    pub few : count ≤ 25
    pub little : carried ≤ 24
    pub numbers-long : length numbers ≡ 25
    pub held-long : length held ≡ 24
    pub chunk : Chunk p st (take at part) (Numbers (take count numbers) (take carried held))
    pub ready : Ready p (Numbers (take count numbers) (take carried held))

  module _ {at count : ℕ} {numbers : List ℕ} {carried : ℕ} (h : Numbering at count numbers carried) where
    pub count-is : length (take count numbers) ≡ count
    count-is = length-take-le count numbers (omega (arith, h.few, h.numbers-long))

    pub count-below : count < 25
    count-below = omega (arith, count-is, h.ready.0.0, wanted-most p (take count numbers))

    pub carried-is : length (take carried held) ≡ carried
    carried-is = length-take-le carried held (omega (arith, h.little, h.held-long))

    -- what is carried is less than the longest field
    pub carried-short : get_or (take carried held) 0 0 < 256 → carried < 8
    carried-short o = omega (arith, carried-is, ends-short (take carried held) o h.ready.0.1)

    lead : (m : Moved) → m.records ≡ 0 → m.taken ≤ length part → Chunk p st (take m.taken part) (state_in m.now) → Ready p st
        → (m.now.count ≤ 25) → (m.now.carried ≤ 24) → (length m.now.numbers ≡ 25) → (length m.now.held ≡ 24) → (out : List ℕ) → Served p st part out m out
    lead m r l c y a b d e out =
        let n : length (take m.taken part) ≡ m.taken = length-take-le m.taken part l in
        served-chunk p st part out m l (record { count = a; carried = b; numbers = d; held = e; ready = rw c.comes at (ready-after p st (take m.taken part) y) }) r c.comes c.gives (c.takes (length out) ∙ n)

    -- all bytes were taken
    pub served-over : length part ≤ at → Ready p st → (out : List ℕ) → Served p st part out (moved_to 0 0 count numbers carried held at) out
    served-over l y = lead (moved_to 0 0 count numbers carried held at) refl h.within (rw (at-numbers 0 0 0 0 (take count numbers) (take carried held) refl) h.chunk) y h.few h.little h.numbers-long h.held-long

    -- the field that begins is not whole
    module _ (e : read_number (take carried held ++ drop at part) 0 ≡ Err Ends) where
      pub kept-short : get_or (take carried held ++ drop at part) 0 0 < 256 → carried + (length part - at) < 8
      kept-short o =
          let l : length (take carried held ++ drop at part) ≡ length (take carried held) + length (drop at part) = length-append (take carried held) (drop at part) in
          let m : length (drop at part) ≡ length part - at = length-drop at part in
          omega (arith, carried-is, ends-short (take carried held ++ drop at part) o e)

      pub served-kept : (kept : List ℕ) → carried + (length part - at) ≤ 24 → length kept ≡ 24 → take (carried + length (drop at part)) kept ≡ take carried held ++ drop at part
          → Ready p st → (out : List ℕ) → Served p st part out (moved_to 0 0 count numbers (carried + (length part - at)) kept (length part)) out
      served-kept kept f k t y =
          let m : length (drop at part) ≡ length part - at = length-drop at part in
          let q : take (carried + (length part - at)) kept ≡ take carried held ++ drop at part = ap (λ (n : ℕ). take (carried + n) kept) (sym m) ∙ t in
          let a : take (length part) part ≡ take at part ++ drop at part = take_all (length part) part (omega arith) ∙ sym (take-append-drop at part) in
          let c : Chunk p st (take (length part) part) (Numbers (take count numbers) (take carried held ++ drop at part)) =
          rw a (chunk-then p st (Numbers (take count numbers) (take carried held)) (Numbers (take count numbers) (take carried held ++ drop at part)) (take at part) (drop at part) h.chunk (chunk-ends p (take count numbers) (take carried held) (drop at part) e)) in
          lead (moved_to 0 0 count numbers (carried + (length part - at)) kept (length part)) refl (omega arith)
          (rw (at-numbers 0 0 0 0 (take count numbers) (take (carried + (length part - at)) kept) refl, q) c) y h.few f h.numbers-long k

    -- it is whole
    module _ (v next : ℕ) (c : Bool) (b : Behind carried at v next c (read_number (take carried held ++ drop at part) 0)) where
      abbrev s : List ℕ
      s = take carried held ++ drop at part

      there : b.n ≤ length s
      there = omega (arith, value_there s 0 b.reads, value-place s 0 b.reads)

      abbrev held_now : List ℕ
      held_now = take carried held

      past : carried < b.n
      past =
          split b.n carried
          (λ l.
          let t : take b.n s ≡ take b.n held_now = take-append-le b.n held_now (drop at part) (omega (arith, carried-is)) in
          let q : read_number (take b.n held_now) 0 ≡ found v b.n c = ap (λ (x : List ℕ). read_number x 0) (sym t) ∙ read-prefix s v b.n c b.reads in
          never-value (sym h.ready.0.1 ∙ ap (λ (x : List ℕ). read_number x 0) (sym (take-append-drop b.n held_now)) ∙ still-there (take b.n held_now) (drop b.n held_now) q))
          (λ l. l)

      long : length s ≡ carried + (length part - at)
      long = length-append held_now (drop at part) ∙ ap₂ ◌+◌ carried-is (length-drop at part)

      pub next_past : at < next
      next_past = omega (arith, past, b.place)

      pub next-within : next ≤ length part
      next-within = omega (arith, past, b.place, there, long, h.within)

      gone : next ≡ at + (b.n - carried)
      gone = b.place

      taken : held_now ++ take (b.n - carried) (drop at part) ≡ take b.n s
      taken =
          let e : b.n ≡ length held_now + (b.n - carried) = omega (arith, carried-is, past) in
          sym (ap (λ (x : ℕ). take x s) e ∙ take-append-add held_now (drop at part) (b.n - carried))

      -- the bytes up to its end lead to what it brings
      pub whole_chunk : Chunk p st (take next part) (judged p (take count numbers) v c)
      whole_chunk =
          let a : take next part ≡ take at part ++ take (b.n - carried) (drop at part) = ap (λ (x : ℕ). take x part) gone ∙ take-add at (b.n - carried) part in
          let r : read_number (held_now ++ take (b.n - carried) (drop at part)) 0 ≡ found v b.n c = ap (λ (x : List ℕ). read_number x 0) taken ∙ read-prefix s v b.n c b.reads in
          let l : b.n ≡ length (held_now ++ take (b.n - carried) (drop at part)) = sym (ap length taken ∙ length-take-le b.n s there) in
          rw a (chunk-then p st (Numbers (take count numbers) held_now) (judged p (take count numbers) v c) (take at part) (take (b.n - carried) (drop at part)) h.chunk
          (chunk_whole p (take count numbers) held_now (take (b.n - carried) (drop at part)) v b.n c h.ready.0.1 r l))

      pub served-refused : (refusal : Refusal) → judge_field p (take count numbers) v c ≡ Err refusal → Ready p st → (out : List ℕ) → Served p st part out (moved_to 3 (number_of refusal) count numbers carried held next) out
      served-refused refusal e y =
          let j : ℕ = number_of refusal in
          let q : judged p (take count numbers) v c ≡ Refused j = rw e refl in
          lead (moved_to 3 j count numbers carried held next) refl next-within (rw (at-refused 3 j 0 0 (take count numbers) held_now refl) (rw q at whole_chunk)) y h.few h.little h.numbers-long h.held-long

      module _ (j : judge_field p (take count numbers) v c ≡ Ok tt) where
        snoc : take (count + 1) (set numbers count v) ≡ take count numbers ++ (v ∷ [])
        snoc = rw add-one (take-suc-set numbers count v (omega (arith, count-below, h.numbers-long)))

        brought : judged p (take count numbers) v c ≡ with_number p (take (count + 1) (set numbers count v))
        brought = rw (j, snoc)

        many : length (take (count + 1) (set numbers count v)) ≡ count + 1
        many = length-take-le (count + 1) (set numbers count v) (rw length-set (omega (arith, count-below, h.numbers-long)))

        pub served-whole : wanted_of p (take (count + 1) (set numbers count v)) ≤ count + 1 → Ready p st → (out : List ℕ) → Served p st part out (moved_to 1 v (count + 1) (set numbers count v) 0 held next) out
        unfolding with_number
        served-whole w y =
            let l : wanted_of p (take (count + 1) (set numbers count v)) ≤ length (take (count + 1) (set numbers count v)) = omega (arith, many) in
            let k : count_of (take (count + 1) (set numbers count v)) ≡ v = ap count_of snoc ∙ count-last p (take count numbers) v c j h.ready.0.0 h.ready.1 in
            let q : judged p (take count numbers) v c ≡ Records (take (count + 1) (set numbers count v)) v 0 0 [] =
            brought ∙ rw (le-leb (wanted_of p (take (count + 1) (set numbers count v))) (length (take (count + 1) (set numbers count v))) l, k) refl in
            lead (moved_to 1 v (count + 1) (set numbers count v) 0 held next) refl next-within
            (rw (at_records 1 v 0 0 (take (count + 1) (set numbers count v)) [] refl) (rw q at whole_chunk)) y (omega (arith, count-below)) zero-le (simp length-set h.numbers-long) h.held-long

        pub numbering-more : (count + 1 < wanted_of p (take (count + 1) (set numbers count v))) → Ready p st → Numbering next (count + 1) (set numbers count v) 0
        unfolding with_number
        numbering-more w y =
            let l : length (take (count + 1) (set numbers count v)) < wanted_of p (take (count + 1) (set numbers count v)) = omega (arith, many) in
            let q : judged p (take count numbers) v c ≡ Numbers (take (count + 1) (set numbers count v)) [] =
            brought ∙ rw (lt-leb (wanted_of p (take (count + 1) (set numbers count v))) (length (take (count + 1) (set numbers count v))) l) refl in
            let d : Chunk p st (take next part) (Numbers (take (count + 1) (set numbers count v)) []) = rw q at whole_chunk in
            record {
              within = next-within;
              few = omega (arith, count-below);
              little = zero-le;
              numbers-long = simp length-set h.numbers-long;
              held-long = h.held-long;
              chunk = d;
              ready = rw d.comes at (ready-after p st (take next part) y);
            }

-- ---- the four ways that the header's numbers are left; z is the state as the words say it

module _ (p : Profile) (z st : State) (part held : List ℕ) (e : z ≡ st) (y : Ready p st) {at count : ℕ} {numbers : List ℕ} {carried : ℕ} (h : Numbering p st part held at count numbers carried) where
  abbrev Left : Moved → Type 0
  Left m = ((out : List ℕ) → Served p z part out m out) × Past (state_in m.now) (drop m.taken part)

  none_left : (xs : List ℕ) (n : ℕ) → length xs ≤ n → drop n xs ≡ []
  none_left [] n l = drop-nil n
  none_left (x ∷ xs) zero l = absurd (omega arith)
  none_left (x ∷ xs) (suc n) l = none_left xs n (omega arith)

  pub over_done : length part ≤ at → (m : Moved) → m ≡ moved_to 0 0 count numbers carried held at → Left m
  over_done l m q = rw q (λ out. rw e (served-over p st part held h l y out), rw (at-numbers 0 0 0 0 (take count numbers) (take carried held) refl) (none_left part at l))

  pub kept-done : read_number (take carried held ++ drop at part) 0 ≡ Err Ends → (kept : List ℕ) → carried + (length part - at) ≤ 24 → length kept ≡ 24
      → take (carried + length (take (length part - at) (drop at part))) kept ≡ take carried held ++ take (length part - at) (drop at part)
      → (m : Moved) → m ≡ moved_to 0 0 count numbers (carried + (length part - at)) kept (length part) → Left m
  kept-done f kept g k t m q =
      let w : take (length part - at) (drop at part) ≡ drop at part = take_all (length part - at) (drop at part) (rw length-drop (omega arith)) in
      let u : take (carried + length (drop at part)) kept ≡ take carried held ++ drop at part = rw w at t in
      rw q (λ out. rw e (served-kept p st part held h f kept g k u y out), rw (at-numbers 0 0 0 0 (take count numbers) (take (carried + (length part - at)) kept) refl) (none_left part (length part) (omega arith)))

  pub refused-done : (v next : ℕ) (c : Bool) → Behind carried at v next c (read_number (take carried held ++ drop at part) 0) → (refusal : Refusal) → judge_field p (take count numbers) v c ≡ Err refusal
      → (m : Moved) → m ≡ moved_to 3 (number_of refusal) count numbers carried held next → Left m
  refused-done v next c b refusal f m q = rw q (λ out. rw e (served-refused p st part held h v next c b refusal f y out), rw (at-refused 3 (number_of refusal) 0 0 (take count numbers) (take carried held) refl) tt)

  pub whole-done : (v next : ℕ) (c : Bool) → Behind carried at v next c (read_number (take carried held ++ drop at part) 0) → judge_field p (take count numbers) v c ≡ Ok tt
      → wanted_of p (take (count + 1) (set numbers count v)) ≤ count + 1 → (m : Moved) → m ≡ moved_to 1 v (count + 1) (set numbers count v) 0 held next → Left m
  whole-done v next c b j w m q = rw q (λ out. rw e (served-whole p st part held h v next c b j w y out), rw (at_records 1 v 0 0 (take (count + 1) (set numbers count v)) (take 0 held) refl) tt)

-- the first byte of a field
pub first-held : (held : List ℕ) (carried : ℕ) → get_or held 0 0 < 256 → get_or (take carried held) 0 0 < 256
first-held held zero o = omega arith
first-held held (suc k) o = rw (get_or-take (suc k) held 0 0 (omega arith)) o

pub first_byte : (held part : List ℕ) (carried at : ℕ) → length held ≡ 24 → get_or held 0 0 < 256 → ((i : ℕ) → get_or part i 0 < 256) → get_or (take carried held ++ drop at part) 0 0 < 256
first_byte held part zero at l o f = rw (get_or-drop at part 0 0) (f (at + 0))
first_byte [] part (suc k) at l o f = absurd (omega arith)
first_byte (x ∷ held) part (suc k) at l o f = o

-- before the first byte
pub numbering-starts : (p : Profile) (s : Stand) (part : List ℕ) → Sits p s → s.stage ≡ 0 → Numbering p (state_in s) part s.held 0 s.count s.numbers s.carried
numbering-starts p s part h e =
    let q : state_in s ≡ Numbers (take s.count s.numbers) (take s.carried s.held) = at-numbers s.stage s.left s.last s.above (take s.count s.numbers) (take s.carried s.held) e in
    record {
      within = zero-le;
      few = h.count;
      little = h.carried;
      numbers-long = h.numbers;
      held-long = h.held;
      chunk = rw q (chunk-none p (Numbers (take s.count s.numbers) (take s.carried s.held)));
      ready = rw q at h.ready;
    }

-- the header was whole before
pub past-still : (s : Stand) (part : List ℕ) → (s.stage ≡ 0 → ⊥) → Past (state_in s) part
unfolding state_as
past-still s part n = rw (ne_eqb s.stage 0 n) (go (eqb s.stage 1) (eqb s.stage 2) (eqb s.stage 3))
  where
    ns : List ℕ
    ns = take s.count s.numbers

    go : (a b c : Bool) → Past (pick a (Records ns s.left s.last s.above (take s.carried s.held)) (pick b (Counting ns s.left) (pick c (Refused s.left) (Accepted ns)))) part
    go true b c = tt
    go false true c = tt
    go false false true = tt
    go false false false = tt
