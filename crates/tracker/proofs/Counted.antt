-- What the walks counted is what the summary counts: the status of each object, how many have each, and how long the entries are.
-- Assumes nothing.
use Prim.Native.Nat.{ℕ, zero, suc, ◌+◌, ◌*◌, ◌≤◌, ◌<◌}
use mathlib.Core.Path.{◌≡◌, refl, ap, ◌∙◌}
use mathlib.Core.Bool.{Bool, true, false}
use mathlib.Core.List.{List, [], ◌++◌}
use native.Mathlib.Omega.{arith}
use borrow.Author.Tests.{le-ltb, ne_eqb}
use lib.Dec.{eqb, ltb}
use lib.ListN.{length, length-append}
use Rattle.wire.specs.Bytes.{pick}
use Rattle.tracker.specs.Known.{most_objects, Known}
use Rattle.tracker.specs.Record.{word_at, fate_of, consistent, known}
use Rattle.tracker.specs.Status.{no_status, is_lost, status_from, status_at, entry_bytes, bytes_at, entries_from, how_many}
use Rattle.tracker.specs.Counting.{no_arrival, spread_from, loss_end, statuses_by, counted_in, counts_from}
use Rattle.tracker.specs.declared.Counts.{Counts}
use Rattle.tracker.proofs.Arrivals.{arrives}
use Rattle.tracker.proofs.Fates.{word-came, status-came}
use Rattle.tracker.proofs.Losses.{lost-by-end}

-- ---- the status by the end is the status

pub status-agrees : (r : List ℕ) (time place : ℕ) → consistent r ≡ true → place < most_objects
    → status_at (known r) time place ≡ statuses_by (loss_end r time (spread_from r most_objects 0 no_arrival).top) r place
unfolding status_at
status-agrees r time place sound h =
    arrives (word_at r place)
    (λ a. status-came (fate_of (word_at r place)) (is_lost (known r) time place) (ltb (place + 1) (loss_end r time (spread_from r most_objects 0 no_arrival).top)) (word-came (word_at r place) ∙ a))
    (λ a. ap (status_from (fate_of (word_at r place))) (lost-by-end r sound time place h a))

-- ---- how many: only the tests at these places matter

pub many-same : (f g : ℕ → Bool) (n place : ℕ) → ((p : ℕ) → p < place + n → f p ≡ g p) → how_many f n place ≡ how_many g n place
unfolding how_many
many-same f g zero place h = refl
many-same f g (suc n) place h = rw (h place (omega arith), many-same f g n (suc place) (λ p l. h p (omega arith)))

pub many-within : (f : ℕ → Bool) (n place : ℕ) → how_many f n place ≤ n
unfolding how_many
many-within f zero place = omega arith
many-within f (suc n) place = go (f place) (many-within f n (suc place))
  where
    go : (b : Bool) → how_many f n (suc place) ≤ n → pick b 1 0 + how_many f n (suc place) ≤ suc n
    go true l = omega arith
    go false l = omega arith

pub entries-same : (f g : ℕ → ℕ) (k : Known) (time n place : ℕ) → ((p : ℕ) → p < place + n → f p ≡ g p) → entries_from f k time n place ≡ entries_from g k time n place
unfolding entries_from
entries-same f g k time zero place h = refl
entries-same f g k time (suc n) place h =
    ap (λ (s : ℕ). bytes_at k time s place ++ entries_from f k time n (suc place)) (h place (omega arith))
    ∙ ap (λ (l : List ℕ). bytes_at k time (g place) place ++ l) (entries-same f g k time n (suc place) (λ p l. h p (omega arith)))

-- ---- the counts of the walk, each field by the same law

counted-field : (get : Counts → ℕ) (k : ℕ) → ((c : Counts) (status : ℕ) → get (counted_in c status) ≡ pick (eqb status k) (get c + 1) (get c))
    → (end : ℕ) (r : List ℕ) (n place : ℕ) (c : Counts) → get (counts_from end r n place c) ≡ get c + how_many (λ p. eqb (statuses_by end r p) k) n place
unfolding counts_from how_many
counted-field get k step end r zero place c = omega arith
counted-field get k step end r (suc n) place c =
    counted-field get k step end r n (suc place) (counted_in c (statuses_by end r place))
    ∙ rw (step c (statuses_by end r place)) (go (eqb (statuses_by end r place) k) (how_many (λ p. eqb (statuses_by end r p) k) n (suc place)))
  where
    go : (b : Bool) (m : ℕ) → pick b (get c + 1) (get c) + m ≡ get c + (pick b 1 0 + m)
    go true m = omega arith
    go false m = omega arith

module _ (end : ℕ) (r : List ℕ) (n place : ℕ) (c : Counts) where
  pub received-counted : (counts_from end r n place c).received ≡ c.received + how_many (λ p. eqb (statuses_by end r p) 0) n place
  received-counted = counted-field (λ (d : Counts). d.received) 0 (λ d s. refl) end r n place c

  pub late-counted : (counts_from end r n place c).late ≡ c.late + how_many (λ p. eqb (statuses_by end r p) 1) n place
  late-counted = counted-field (λ (d : Counts). d.late) 1 (λ d s. refl) end r n place c

  pub missing-counted : (counts_from end r n place c).missing ≡ c.missing + how_many (λ p. eqb (statuses_by end r p) 2) n place
  missing-counted = counted-field (λ (d : Counts). d.missing) 2 (λ d s. refl) end r n place c

  pub partial-counted : (counts_from end r n place c).partial ≡ c.partial + how_many (λ p. eqb (statuses_by end r p) 3) n place
  partial-counted = counted-field (λ (d : Counts). d.partial) 3 (λ d s. refl) end r n place c

-- ---- total equals its parts

one-part : (s : ℕ) → pick (ltb s no_status) 1 0 ≡ pick (eqb s 0) 1 0 + pick (eqb s 1) 1 0 + (pick (eqb s 2) 1 0 + pick (eqb s 3) 1 0)
one-part zero = refl
one-part (suc zero) = refl
one-part (suc (suc zero)) = refl
one-part (suc (suc (suc zero))) = refl
one-part (suc (suc (suc (suc s)))) =
    let n : ℕ = suc (suc (suc (suc s))) in
    rw (le-ltb n no_status (omega arith), ne_eqb n 0 (λ e. absurd (omega arith)), ne_eqb n 1 (λ e. absurd (omega arith)), ne_eqb n 2 (λ e. absurd (omega arith)), ne_eqb n 3 (λ e. absurd (omega arith)))

pub total-parts : (status : ℕ → ℕ) (n place : ℕ)
    → how_many (λ p. ltb (status p) no_status) n place
    ≡ how_many (λ p. eqb (status p) 0) n place + how_many (λ p. eqb (status p) 1) n place + (how_many (λ p. eqb (status p) 2) n place + how_many (λ p. eqb (status p) 3) n place)
unfolding how_many
total-parts status zero place = refl
total-parts status (suc n) place = omega (arith, one-part (status place), total-parts status n (suc place))

-- ---- each entry is 16 bytes

bytes-length : (k : Known) (time status place : ℕ) → length (bytes_at k time status place) ≡ 16 * pick (ltb status no_status) 1 0
bytes-length k time status place = go (ltb status no_status) _ _
  where
    go : (b : Bool) (object age : ℕ) → length (pick b (entry_bytes object status age) []) ≡ 16 * pick b 1 0
    go true object age = refl
    go false object age = refl

pub entries-length : (status : ℕ → ℕ) (k : Known) (time n place : ℕ) → length (entries_from status k time n place) ≡ 16 * how_many (λ p. ltb (status p) no_status) n place
unfolding entries_from how_many
entries-length status k time zero place = refl
entries-length status k time (suc n) place =
    let m = entries-length status k time n (suc place) in
    let l = length-append (bytes_at k time (status place) place) (entries_from status k time n (suc place)) in
    omega (arith, l, m, bytes-length k time (status place) place)
