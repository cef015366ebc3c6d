-- One report more: what it brings, and any totals with it.
use Rattle.std.specs.Prelude.{ℕ, ◌+◌, ◌-◌, ◌≤◌, ◌<◌, ◌≡◌, List, [], ◌∷◌, eqb, leb, length, get_or, replicate}
use Rattle.wire.specs.Bytes.{pick}
use Rattle.entries.specs.declared.Profile.TheVariants.{One}
use Rattle.report.specs.declared.Header.{Header}
use Rattle.report.specs.declared.Report.{Report}
use Rattle.report.specs.Reader.{read_report, entries_of}
use Rattle.totals.specs.declared.Totals.{Totals}
use Rattle.totals.specs.declared.Brought.{Brought}
use Rattle.totals.specs.Totals.{longest, too_long, one, status_count, places, at_total, at_received, at_late, at_lost, at_entries, most, kept, listed}

-- a refused report brings its number alone
unfoldable pub refused_brings : ℕ → Brought
refused_brings n = record { number = n; total = 0; received = 0; late = 0; lost = 0; statuses = replicate 4 0 }

-- an accepted one its four totals, and how many of its entries have each status
unfoldable pub accepted_brings : Header → List ℕ → Brought
accepted_brings h s =
    record {
      number = 0;
      total = h.total;
      received = h.received;
      late = h.late;
      lost = h.lost;
      statuses = status_count 0 s ∷ status_count 1 s ∷ status_count 2 s ∷ status_count 3 s ∷ [];
    }

abbrev pub read_brings : Report → List ℕ → Brought
read_brings read s = pick (eqb read.refusal 0) (accepted_brings read.header s) (refused_brings read.refusal)

unfoldable pub brings : List ℕ → Brought
brings r = pick (leb (length r) longest) (read_brings (read_report One r) (entries_of One r)) (refused_brings too_long)

-- what of it belongs in a place
unfoldable pub share : Brought → ℕ → ℕ
share b place =
    pick (leb place too_long) (one place b.number)
    (pick (eqb place at_total) b.total
    (pick (eqb place at_received) b.received
    (pick (eqb place at_late) b.late
    (pick (eqb place at_lost) b.lost (get_or b.statuses (place - at_entries) 0)))))

-- the sum in a place with what is brought: "one that would pass 2^64 - 1 stays there and is marked"
abbrev pub sum_with : Totals → Brought → ℕ → ℕ
sum_with t b place = kept (get_or t.sums place 0 + share b place)

abbrev pub mark_with : Totals → Brought → ℕ → ℕ
mark_with t b place = pick (leb (get_or t.sums place 0 + share b place) most) (get_or t.full place 0) 1

unfoldable pub with : Totals → Brought → Totals
with t b = record { sums = listed places (sum_with t b); full = listed places (mark_with t b) }

abbrev pub added : Totals → List ℕ → Totals
added t r = with t (brings r)

-- ---- sums that are lent

-- the totals whose sums and marks are lent one by one
abbrev pub over : List ℕ → List ℕ → Totals
over sums full = record { sums = sums; full = full }

-- as arrays hold them: every place has its sum, a word of 64 bits, and its mark
pub record Held (t : Totals) : Type 0 where
  pub sums-long : length t.sums ≡ places
  pub marks-long : length t.full ≡ places
  pub words : (place : ℕ) → place < places → get_or t.sums place 0 ≤ most
