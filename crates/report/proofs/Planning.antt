-- The writer: what each of its judgements answers, what an accepted plan says, and what the stored bytes are.
-- Assumes nothing.
use Prim.Native.Nat.{ℕ, ◌+◌, ◌-◌, ◌*◌, ◌/◌, ◌≤◌, ◌<◌}
use mathlib.Core.Path.{◌≡◌, refl, sym, ap, ◌∙◌, subst}
use mathlib.Core.Bool.{Bool, true, false}
use mathlib.Core.List.{List, [], ◌∷◌, ◌++◌, append-nil}
use native.Mathlib.Numerals.{add-one}
use native.Mathlib.Omega.{arith}
use borrow.Author.Tests.{le-leb, lt-leb, leb-true}
use lib.Dec.{leb}
use lib.ListN.{length, take, drop, set, length-append, length-drop}
use lib.Seq.{take-suc-set, take_all}
use Rattle.std.specs.Prelude.{Result, Ok, Err}
use Rattle.wire.specs.Bytes.{pick, splice}
use Rattle.wire.specs.Numbers.{limit, width_of, encode_all, all_small, length_of}
use Rattle.wire.specs.declared.Refusal.{Refusal}
use Rattle.wire.specs.declared.Refusal.TheVariants.{TooLarge, NoRoom, BrokenCount}
use Rattle.wire.proofs.Small.{all_small_lem, small-append}
use Rattle.wire.proofs.Writing.{length-encode, encode-append}
use Rattle.entries.specs.Limits.{most_entries}
use Rattle.entries.specs.Profiles.{record_size}
use Rattle.entries.specs.declared.Profile.{Profile}
use Rattle.entries.specs.Entries.{entries_fault}
use Rattle.entries.specs.Fitting.{size_of, fitting_of, last_of}
use Rattle.entries.specs.Exactly.{Longest}
use Rattle.entries.proofs.Profiles.{sized}
use Rattle.entries.proofs.Sizes.{held, holds}
use Rattle.entries.proofs.Largest.{size_none, records-fit}
use Rattle.report.specs.Header.{heeding, first_fault, numbers_of}
use Rattle.report.specs.Writer.{done, report_size, kept_of, planned, write_answer, report_bytes, stored_as, write_bytes}
use Rattle.report.specs.declared.Header.{Header}
use Rattle.report.specs.declared.Written.{Written}

-- ---- each judgement in its turn

module _ (p : Profile) (ns entries : List ℕ) (maximum room : ℕ) where
  pub plan-large : all_small ns ≡ false → Err TooLarge ≡ planned p ns entries maximum room
  unfolding planned
  plan-large e = rw e

  -- the refusal of the length is that of the plan
  pub plan-refused : {refusal : Refusal} → Err refusal ≡ length_of ns → Err refusal ≡ planned p ns entries maximum room
  unfolding length_of
  plan-refused {refusal} e = go (all_small ns) refl e
    where
      go : (b : Bool) → all_small ns ≡ b → Err refusal ≡ pick b (Ok (length (encode_all ns))) (Err TooLarge) → Err refusal ≡ planned p ns entries maximum room
      go true s e = absurd (cc)
      go false s e = let q : refusal ≡ TooLarge = cc in ap Err q ∙ plan-large s

  module _ (s : all_small ns ≡ true) where
    pub plan-fault : {refusal : Refusal} → Err refusal ≡ first_fault p ns → Err refusal ≡ planned p ns entries maximum room
    unfolding planned
    plan-fault e = rw (s, ← e)

    module _ (z : first_fault p ns ≡ Ok tt) where
      pub plan-above : most_entries < maximum → Err BrokenCount ≡ planned p ns entries maximum room
      unfolding planned
      plan-above h = rw (s, z, lt-leb maximum most_entries h)

      module _ (m : maximum ≤ most_entries) where
        pub plan-broken : {refusal : Refusal} → Err refusal ≡ entries_fault p entries → Err refusal ≡ planned p ns entries maximum room
        unfolding planned
        plan-broken e = rw (s, z, le-leb maximum most_entries m, ← e)

        module _ (y : entries_fault p entries ≡ Ok tt) where
          pub plan-room : room ≤ length (encode_all ns) → Err NoRoom ≡ planned p ns entries maximum room
          unfolding planned
          plan-room h = rw (s, z, le-leb maximum most_entries m, y, lt-leb (report_size p (length (encode_all ns)) 0) room (omega (arith, size_none p)))

          pub plan-done : (head k w : ℕ) → head ≡ length (encode_all ns) → head < room → k ≡ fitting_of p (length entries / record_size p) maximum (room - head) → w ≡ width_of k
              → done (head + w + record_size p * k) k ≡ planned p ns entries maximum room
          unfolding planned
          plan-done head k w e h f g =
              let l : report_size p head 0 ≤ room = omega (arith, size_none p) in
              let n : head + w + record_size p * k ≡ report_size p head k = omega arith in
              rw (n, s, z, le-leb maximum most_entries m, y, ← e, ← f, le-leb (report_size p head 0) room l)

          -- by the code's own number of records, and its own size of one
          pub plan-done-by : (given size : ℕ) → given ≡ length entries / record_size p → size ≡ record_size p → (head k w : ℕ) → head ≡ length (encode_all ns) → head < room → k ≡ fitting_of p given maximum (room - head)
              → w ≡ width_of k → done (head + w + size * k) k ≡ planned p ns entries maximum room
          plan-done-by given size i q head k w e h f g =
              ap (λ (x : ℕ). done (head + w + x * k) k) q ∙ plan-done head k w e h (f ∙ ap (λ (x : ℕ). fitting_of p x maximum (room - head)) i) g

-- the code's sum stays within the room
pub plan-fits : (p : Profile) (size : ℕ) → size ≡ record_size p → (head room n most k w : ℕ) → head < room → k ≡ fitting_of p n most (room - head) → w ≡ width_of k → head + w + size * k ≤ room
plan-fits p size e head room n most k w h f g =
    let q : size_of p k ≤ room - head = rw f ((records-fit p n most (room - head)).fits (omega (arith, size_none p))) in
    subst (λ (x : ℕ). head + w + x * k ≤ room) (sym e) (omega arith)

-- ---- what an accepted plan says

-- one number more behind the others
pub length_last : (vs : List ℕ) (v : ℕ) → v ≤ limit → length (encode_all (vs ++ (v ∷ []))) ≡ length (encode_all vs) + width_of v
unfolding encode_all
length_last vs v h = rw (encode-append, append-nil, length-append, length-encode v h)

-- two answers that are one
written-next : Result Written Refusal → ℕ
written-next (Ok w) = w.next
written-next (Err refusal) = 0

written-kept : Result Written Refusal → ℕ
written-kept (Ok w) = w.kept
written-kept (Err refusal) = 0

pub done-same : {next kept next' kept' : ℕ} → done next kept ≡ done next' kept' → (next ≡ next') × (kept ≡ kept')
unfolding written-next written-kept
done-same e = (ap written-next e, ap written-kept e)

pub record Accepted (p : Profile) (ns entries : List ℕ) (maximum room next kept : ℕ) : Type 0 where
  pub small : all_small ns ≡ true
  pub fault : first_fault p ns ≡ Ok tt
  pub within : maximum ≤ most_entries
  pub good : entries_fault p entries ≡ Ok tt
  pub least : report_size p (length (encode_all ns)) 0 ≤ room
  pub many : kept ≡ kept_of p ns entries maximum room
  pub size : next ≡ report_size p (length (encode_all ns)) kept

pub plan-accepted : (p : Profile) (ns entries : List ℕ) (maximum room next kept : ℕ) → done next kept ≡ planned p ns entries maximum room → Accepted p ns entries maximum room next kept
unfolding planned
plan-accepted p ns entries maximum room next kept e =
    go (all_small ns) (first_fault p ns) (leb maximum most_entries) (entries_fault p entries) (leb (report_size p (length (encode_all ns)) 0) room) refl refl refl refl refl e
  where
    k : ℕ
    k = kept_of p ns entries maximum room

    go : (a : Bool) (b : Result Unit Refusal) (m : Bool) (c : Result Unit Refusal) (d : Bool) → all_small ns ≡ a → first_fault p ns ≡ b → leb maximum most_entries ≡ m → entries_fault p entries ≡ c → leb (report_size p (length (encode_all ns)) 0) room ≡ d
        → done next kept ≡ pick a (heeding b Err (pick m (heeding c Err (pick d (done (report_size p (length (encode_all ns)) k) k) (Err NoRoom))) (Err BrokenCount))) (Err TooLarge)
        → Accepted p ns entries maximum room next kept
    go true (Ok x) true (Ok y) true o q u r t e =
        let same = done-same e in
        let m : kept ≡ k = same.1 in
        let n : next ≡ report_size p (length (encode_all ns)) k = same.0 in
        record {
          small = o;
          fault = q;
          within = leb-true maximum most_entries u;
          good = r;
          least = leb-true (report_size p (length (encode_all ns)) 0) room t;
          many = m;
          size = n ∙ ap (report_size p (length (encode_all ns))) (sym m);
        }
    go true (Ok x) true (Ok y) false o q u r t e = absurd (cc)
    go true (Ok x) true (Err w) d o q u r t e = absurd (cc)
    go true (Ok x) false c d o q u r t e = absurd (cc)
    go true (Err w) m c d o q u r t e = absurd (cc)
    go false b m c d o q u r t e = absurd (cc)

module _ {p : Profile} {ns entries : List ℕ} {maximum room next kept : ℕ} (a : Accepted p ns entries maximum room next kept) where
  run : Longest p (length entries / record_size p) maximum (room - length (encode_all ns)) kept
  run = rw a.many (records-fit p (length entries / record_size p) maximum (room - length (encode_all ns)))

  pub kept-given : record_size p * kept ≤ length entries
  kept-given = held (record_size p) (sized p) (length entries) kept run.given

  pub kept-maximum : kept ≤ maximum
  kept-maximum = run.limit

  pub kept-limit : kept ≤ most_entries
  kept-limit = omega (arith, run.limit, a.within)

  pub kept-longest : (k : ℕ) → k ≤ maximum → record_size p * k ≤ length entries → report_size p (length (encode_all ns)) k ≤ room → k ≤ kept
  kept-longest k m g f = run.longest k m (holds (record_size p) (sized p) (length entries) k g) (omega arith)

  pub fits-room : next ≤ room
  fits-room = omega (arith, a.size, a.least, run.fits (omega (arith, a.least)))

  pub numbers-small : all_small (ns ++ (kept ∷ [])) ≡ true
  numbers-small = (all_small_lem (ns ++ (kept ∷ []))).1 ((small-append ns (kept ∷ [])).1 ((all_small_lem ns).0 a.small, (omega (arith, kept-limit), tt)))

  pub head-size : length (encode_all (ns ++ (kept ∷ []))) ≡ next - record_size p * kept
  head-size = length_last ns kept (omega (arith, kept-limit)) ∙ omega (arith, a.size)

  pub records-size : length (last_of p entries kept) ≡ record_size p * kept
  records-size = rw length-drop (omega (arith, kept-given))

-- ---- the code's arrays and parts

pub last_set : (numbers ns : List ℕ) (n k : ℕ) → n < length numbers → take n numbers ≡ ns → take (n + 1) (set numbers n k) ≡ ns ++ (k ∷ [])
last_set numbers ns n k h e = rw (add-one, take-suc-set numbers n k h, e)

pub last-part : (entries : List ℕ) (k : ℕ) → k ≤ length entries → take (length entries - k + k - (length entries - k)) (drop (length entries - k) entries) ≡ drop (length entries - k) entries
last-part entries k h = take_all (length entries - k + k - (length entries - k)) (drop (length entries - k) entries) (rw length-drop (omega arith))

-- ---- the answer and the buffer

module _ (p : Profile) (h : Header) (entries : List ℕ) (maximum : ℕ) (xs : List ℕ) where
  pub write-refused : {refusal : Refusal} → Err refusal ≡ write_answer p h entries maximum (length xs) → (Err refusal ≡ write_answer p h entries maximum (length xs)) × (xs ≡ write_bytes p h entries maximum xs)
  unfolding stored_as
  write-refused e = (e, ap (λ (w : Result Written Refusal). stored_as p w (numbers_of p h) entries xs) e)

  pub write_done : (next kept : ℕ) (ys : List ℕ) → done next kept ≡ write_answer p h entries maximum (length xs) → ys ≡ splice xs 0 (report_bytes p (numbers_of p h) entries kept)
      → (done next kept ≡ write_answer p h entries maximum (length xs)) × (ys ≡ write_bytes p h entries maximum xs)
  unfolding stored_as
  write_done next kept ys e d = (e, d ∙ ap (λ (w : Result Written Refusal). stored_as p w (numbers_of p h) entries xs) e)

-- what storing an accepted plan needs, and what it gives: n numbers of the array are the header's, and the kept records have so many bytes
module _ (p : Profile) (ns entries xs numbers : List ℕ) (maximum n next kept : ℕ) (a : Accepted p ns entries maximum (length xs) next kept) (h : n < length numbers) (t : take n numbers ≡ ns) (bytes : ℕ) (b : bytes ≡ record_size p * kept) where
  pub ready : (all_small (take (n + 1) (set numbers n kept)) ≡ true) × ((next - bytes ≡ length (encode_all (take (n + 1) (set numbers n kept))))
      × (next - bytes + length (take (length entries - bytes + bytes - (length entries - bytes)) (drop (length entries - bytes) entries)) ≤ length xs))
  ready =
      rw (b, last_set numbers ns n kept h t, last-part entries (record_size p * kept) (kept-given a))
      (numbers-small a, (sym (head-size a), omega (arith, fits-room a, records-size a, a.size)))

  pub stored-report : (ys : List ℕ) → ys ≡ splice xs 0 (encode_all (take (n + 1) (set numbers n kept)) ++ take (length entries - bytes + bytes - (length entries - bytes)) (drop (length entries - bytes) entries))
      → ys ≡ splice xs 0 (report_bytes p ns entries kept)
  stored-report ys e = rw (b, last_set numbers ns n kept h t, last-part entries (record_size p * kept) (kept-given a)) at e
