-- What a report brings: the entries of an accepted report are its last bytes, so the code counts them there.
-- Assumes nothing.
use Prim.Native.Nat.{ℕ, ◌+◌, ◌-◌, ◌*◌, ◌≤◌, ◌<◌}
use mathlib.Core.Path.{◌≡◌, refl, ◌∙◌}
use mathlib.Core.Bool.{Bool, true, false}
use mathlib.Core.List.{List}
use native.Mathlib.Omega.{arith}
use borrow.Author.Tests.{le-leb, lt-leb, eq-eqb, ne_eqb, eqb-true}
use lib.Dec.{eqb, leb}
use lib.ListN.{length, take, drop, length-drop}
use lib.Seq.{take_all, drop-length}
use Rattle.wire.specs.Bytes.{pick}
use Rattle.wire.specs.declared.Refusal.{Refusal}
use Rattle.wire.specs.declared.Refusal.TheVariants.{Ends, BrokenEntry, BytesRemain}
use Rattle.entries.specs.Entries.{entries_good}
use Rattle.entries.specs.declared.Profile.TheVariants.{One}
use Rattle.report.specs.declared.Header.{Header}
use Rattle.report.specs.declared.Report.{Report}
use Rattle.report.specs.Header.{count_of, header_of, empty_header}
use Rattle.report.specs.Reader.{Reading, Whole, Stopped, read_numbers, part_of, judge_entries, report_reading, report_of, read_report, entries_in, entries_of}
use Rattle.totals.specs.Totals.{longest, too_long, status_counts}
use Rattle.totals.specs.Adding.{refused_brings, accepted_brings, brings}

module _ (s : List ℕ) where
  -- so many bytes are the entries, the last of s
  abbrev Tail : Reading → Type 0
  Tail x = (16 * (report_of x).header.entries ≤ length s) × (drop (length s - 16 * (report_of x).header.entries) s ≡ entries_in One s x)

  stopped-tail : (refusal : Refusal) → Tail (Stopped refusal)
  unfolding report_of entries_in empty_header
  stopped-tail refusal = (omega arith, let e : length s - 16 * 0 ≡ length s = omega arith in rw e (drop-length s))

  whole-tail : (ns : List ℕ) (at : ℕ) → at + 16 * count_of ns ≡ length s → Tail (Whole ns at)
  unfolding report_of entries_in header_of
  whole-tail ns at h =
      let e : length s - 16 * count_of ns ≡ at = omega arith in
      let l : length (drop at s) ≤ 16 * count_of ns = simp length-drop (omega arith) in
      (omega arith, rw (e, take_all (16 * count_of ns) (drop at s) l))

  judged-tail : (x : Reading) → Tail (judge_entries One s x)
  unfolding judge_entries
  judged-tail (Stopped refusal) = stopped-tail refusal
  judged-tail (Whole ns at) = by-room (leb (at + 16 * count_of ns) (length s))
    where
      by_end : (b : Bool) → eqb (at + 16 * count_of ns) (length s) ≡ b → Tail (pick b (Whole ns at) (Stopped BytesRemain))
      by_end true e = whole-tail ns at (eqb-true (at + 16 * count_of ns) (length s) e)
      by_end false e = stopped-tail BytesRemain

      by-good : (b : Bool) → Tail (pick b (pick (eqb (at + 16 * count_of ns) (length s)) (Whole ns at) (Stopped BytesRemain)) (Stopped BrokenEntry))
      by-good true = by_end (eqb (at + 16 * count_of ns) (length s)) refl
      by-good false = stopped-tail BrokenEntry

      by-room : (b : Bool) → Tail (pick b (pick (entries_good One (part_of One s ns at)) (pick (eqb (at + 16 * count_of ns) (length s)) (Whole ns at) (Stopped BytesRemain)) (Stopped BrokenEntry)) (Stopped Ends))
      by-room true = by-good (entries_good One (part_of One s ns at))
      by-room false = stopped-tail Ends

  entries-tail : Tail (report_reading One s)
  unfolding report_reading
  entries-tail = judged-tail (read_numbers One s)

  -- r is what the reader answered
  module _ {r : Report} (e : r ≡ read_report One s) where
    pub entries_fit : 16 * r.header.entries ≤ length s
    entries_fit = rw e entries-tail.0

    -- the code lends what stands from the start of the entries on
    pub entries-last : take (length s - (length s - 16 * r.header.entries)) (drop (length s - 16 * r.header.entries) s) ≡ entries_of One s
    entries-last =
        let k : length (drop (length s - 16 * r.header.entries) s) ≤ length s - (length s - 16 * r.header.entries) = simp length-drop (omega arith) in
        take_all (length s - (length s - 16 * r.header.entries)) (drop (length s - 16 * r.header.entries) s) k ∙ rw e entries-tail.1

    module _ (l : length s ≤ longest) where
      pub brings-refused : (r.refusal ≡ 0 → ⊥) → refused_brings r.refusal ≡ brings s
      unfolding brings
      brings-refused h = rw (le-leb (length s) longest l, ← e, ne_eqb r.refusal 0 h)

      pub brings-accepted : r.refusal ≡ 0 → accepted_brings r.header (entries_of One s) ≡ brings s
      unfolding brings
      brings-accepted h = rw (le-leb (length s) longest l, ← e, eq-eqb r.refusal 0 h)

  -- the four counts as the code found them
  pub accepted-is : (h : Header) {x : List ℕ} → x ≡ status_counts (entries_of One s)
      → record { number = 0; total = h.total; received = h.received; late = h.late; lost = h.lost; statuses = x } ≡ accepted_brings h (entries_of One s)
  unfolding accepted_brings
  accepted-is h e = rw e

  pub brings-long : longest < length s → refused_brings too_long ≡ brings s
  unfolding brings
  brings-long h = rw (lt-leb (length s) longest h)
