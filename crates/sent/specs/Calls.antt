-- Opening and a send: what each refuses, and the record afterwards.
use Rattle.std.specs.Prelude.{ℕ, zero, suc, ◌+◌, ◌-◌, ◌*◌, ◌/◌, ◌%◌, ◌^◌, Bool, ◌&&◌, List, leb, get_or, set, replicate}
use Rattle.wire.specs.Bytes.{pick}
use Rattle.wire.specs.Numbers.{limit}
use Rattle.window.specs.Words.{bit}
use Rattle.sent.specs.Record.{most_held, next_of, acked_before, lost_before, floor_of, is_outstanding, consistent}
use Rattle.sent.specs.declared.Sent.{Sent}

-- nothing was sent
abbrev pub opened : List ℕ
opened = replicate 36 0

-- ---- "for a send 5 past number 2^62 - 1, then 9 when 1,024 are held and the oldest is outstanding"

abbrev pub is_held_back : List ℕ → Bool
is_held_back r = leb most_held (next_of r) && is_outstanding r (floor_of r)

unfoldable pub send_refusal : List ℕ → ℕ
send_refusal r = pick (consistent r) (pick (leb (next_of r) limit) (pick (is_held_back r) 9 0) 5) 1

-- a word without the mark at bit k
abbrev pub cleared : ℕ → ℕ → ℕ
cleared word k = word - bit word k * 2 ^ k

-- the marks of the number that stood where n is to stand
abbrev pub acked_bit : List ℕ → ℕ → ℕ
acked_bit r n = bit (get_or r (n / 64 % 16) 0) (n % 64)

abbrev pub lost_bit : List ℕ → ℕ → ℕ
lost_bit r n = bit (get_or r (16 + n / 64 % 16) 0) (n % 64)

-- "a send uses its room; the forgotten number keeps its last state in the totals"
unfoldable pub with_sent : List ℕ → List ℕ
with_sent r =
    let n : ℕ = next_of r in
    let i : ℕ = n / 64 % 16 in
    let marks : List ℕ = set (set r i (cleared (get_or r i 0) (n % 64))) (16 + i) (cleared (get_or r (16 + i) 0) (n % 64)) in
    set (set (set marks 33 (acked_before r + acked_bit r n)) 34 (lost_before r + lost_bit r n)) 32 (n + 1)

-- the next record, or, beside a refusal, the record as it came
abbrev pub unless_refused : {A : Type 0} → ℕ → A → A → A
unless_refused zero old new = new
unless_refused (suc n) old new = old

abbrev pub send_after : List ℕ → List ℕ
send_after r = unless_refused (send_refusal r) r (with_sent r)

-- the number sent, or the refusal and 0
abbrev pub send_answer : List ℕ → Sent
send_answer r = record { result = send_refusal r; number = unless_refused (send_refusal r) 0 (next_of r) }
