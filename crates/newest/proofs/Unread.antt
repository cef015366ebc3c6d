-- Nothing before a record that is marked not received is read: the header depends on its own bytes alone, and the search goes no further down.
-- Assumes nothing.
use Prim.Native.Nat.{ℕ, zero, suc, ◌+◌, ◌-◌, ◌*◌, ◌≤◌, ◌<◌}
use mathlib.Core.Path.{◌≡◌, refl, sym, ap, ◌∙◌, subst}
use mathlib.Core.List.{List, [], ◌∷◌, ◌++◌}
use native.Mathlib.Nat.{zero-add}
use native.Mathlib.Omega.{arith}
use lib.ListN.{length, take, drop, take-append-drop}
use lib.Seq.{drop-drop, take-nil}
use Rattle.std.specs.Prelude.{Option, Result, Ok, Err}
use Rattle.wire.specs.Bytes.{pick, Octets}
use Rattle.wire.specs.Numbers.{limit, encode_all}
use Rattle.wire.specs.Standing.{StandShortest}
use Rattle.wire.specs.declared.Refusal.{Refusal}
use Rattle.wire.specs.declared.Refusal.TheVariants.{BrokenEntry}
use Rattle.wire.proofs.Lengths.{split}
use Rattle.wire.proofs.Standing.{short-stands, encoded-short, stand-small, short-long, short-bytes}
use Rattle.entries.specs.Profiles.{record_size}
use Rattle.entries.specs.Entries.{entry_of, entry_at, at_or_above}
use Rattle.entries.specs.declared.Profile.{Profile}
use Rattle.entries.specs.declared.Entry.{Entry}
use Rattle.entries.proofs.Sizes.{further}
use Rattle.report.specs.Header.{count_of}
use Rattle.report.specs.Reader.{Whole, part_of}
use Rattle.report.specs.Exactly.{Headed}
use Rattle.report.proofs.Following.{headed-whole}
use Rattle.newest.specs.Search.{found, is_lost, judged, searched}
use Rattle.newest.specs.Newest.{after_numbers}
use Rattle.newest.specs.Exactly.{Lost}
use Rattle.newest.specs.Against.{Unread}
use Rattle.newest.specs.declared.Lost.{Lost as LostObject}
use Rattle.newest.proofs.Exactly.{by}

-- ---- the search

judged-same : (top next : ℕ) (e : Result Entry Refusal) (f g : ℕ → ℕ → Result (Option LostObject) Refusal) → ((a b : ℕ) → f a b ≡ g a b) → judged top next e f ≡ judged top next e g
judged-same top next (Ok e) f g h =
    ap (λ (r : Result (Option LostObject) Refusal). pick (at_or_above e.group (suc e.object) top next) (pick (is_lost e.status) (found e.group e.object) r) (Err BrokenEntry)) (h e.group e.object)
judged-same top next (Err refusal) f g h = refl

module _ (p : Profile) (s t : List ℕ) (i : ℕ) (same : drop (i * record_size p) t ≡ drop (i * record_size p) s) (x : Lost p s i) where
  -- record j is one of those from record i on
  from : (j : ℕ) → i ≤ j → (u : List ℕ) → drop (j * record_size p) u ≡ drop ((j - i) * record_size p) (drop (i * record_size p) u)
  from j l u =
      let e : i + (j - i) ≡ j = omega arith in
      sym (drop-drop ((j - i) * record_size p) (i * record_size p) u ∙ ap (λ (m : ℕ). drop m u) (further (record_size p) i (j - i) ∙ ap (λ (n : ℕ). n * record_size p) e))

  entry-same : (j : ℕ) → i ≤ j → entry_at p t j ≡ entry_at p s j
  entry-same j l =
      ap (λ (u : List ℕ). entry_of p (take (record_size p) u)) (from j l t ∙ ap (drop ((j - i) * record_size p)) same ∙ sym (from j l s))

  search-same : (k top next : ℕ) → i < k → searched p t k top next ≡ searched p s k top next
  unfolding searched
  search-same zero top next l = absurd (omega arith)
  search-same (suc k) top next l =
      ap (λ (e : Result Entry Refusal). judged top next e (searched p t k)) (entry-same k (omega arith))
      ∙ split (suc i) k
      (λ h. judged-same top next (entry_at p s k) (searched p t k) (searched p s k) (λ a b. search-same k a b h))
      (λ h. let e : k ≡ i = omega arith in
      let y : entry_at p s k ≡ entry_at p s i = ap (entry_at p s) e in
      rw (y, x.entry))

-- ---- the header

module _ (p : Profile) (s t ns : List ℕ) (at : ℕ) (o : Octets s) (h : Headed p s ns at) (front : take at t ≡ take at s) where
  long : at ≡ length (encode_all ns)
  long = short-long s o h.stand ∙ zero-add (length (encode_all ns))

  begins : t ≡ encode_all ns ++ drop at t
  begins =
      let b : take at s ≡ encode_all ns = ap (λ (n : ℕ). take n s) long ∙ short-bytes s o h.stand in
      sym (take-append-drop at t) ∙ ap (λ (u : List ℕ). u ++ drop at t) (front ∙ b)

  headed-too : Headed p t ns at
  headed-too = record {
    stand = subst (StandShortest t 0 ns) (sym (short-long s o h.stand)) (encoded-short ns t [] (drop at t) 0 (stand-small s o (short-stands h.stand)) begins refl);
    good = h.good;
    whole = h.whole;
  }

-- ---- the part that holds the records

drop-take : (m n : ℕ) (l : List ℕ) → drop m (take n l) ≡ take (n - m) (drop m l)
drop-take zero n l = let k : n - 0 ≡ n = omega arith in rw k
drop-take (suc m) zero l = let k : 0 - suc m ≡ 0 = omega arith in rw k
drop-take (suc m) (suc n) [] = sym (take-nil (suc n - suc m))
drop-take (suc m) (suc n) (x ∷ l) = let k : suc n - suc m ≡ n - m = omega arith in drop-take m n l ∙ rw k

part_same : (p : Profile) (s t ns : List ℕ) (at i : ℕ) → drop (at + i * record_size p) t ≡ drop (at + i * record_size p) s
    → drop (i * record_size p) (part_of p t ns at) ≡ drop (i * record_size p) (part_of p s ns at)
part_same p s t ns at i e =
    drop-take (i * record_size p) (record_size p * count_of ns) (drop at t)
    ∙ ap (take (record_size p * count_of ns - i * record_size p)) (drop-drop (i * record_size p) at t ∙ e ∙ sym (drop-drop (i * record_size p) at s))
    ∙ sym (drop-take (i * record_size p) (record_size p * count_of ns) (drop at s))

pub unread : Unread
unfolding after_numbers
unread p s t ns at i o h l x a =
    let q = search-same p (part_of p s ns at) (part_of p t ns at) i (part_same p s t ns at i a.back) x (count_of ns) (suc limit) 0 l in
    let r : after_numbers p t (Whole ns at) ≡ after_numbers p s (Whole ns at) = rw (a.long, q) in
    by p t (Whole ns at) (headed-whole p t ns at (headed-too p s t ns at o h a.front)) ∙ r ∙ sym (by p s (Whole ns at) (headed-whole p s ns at h))
