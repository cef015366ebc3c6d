-- Records in a row, taken one by one: how the entries are judged and which of them are good, from the first record and from those behind it.
-- Assumes nothing.
use Prim.Native.Nat.{ℕ, zero, suc, ◌+◌, ◌*◌, ◌/◌, ◌≤◌, ◌<◌}
use mathlib.Core.Path.{◌≡◌, refl, sym, ap, ap₂, ◌∙◌}
use mathlib.Core.Bool.{Bool, true, false}
use mathlib.Core.List.{List, [], ◌++◌}
use native.Mathlib.Nat.{mul-suc, mul-zero, mul-div_cancel_left}
use native.Mathlib.Omega.{arith}
use borrow.Author.Tests.{le-leb, lt-leb, eq-eqb, ne_eqb, eqb-true, eqb-false}
use lib.Dec.{leb, eqb}
use lib.ListN.{length, take, drop, length-append, length-drop, take-append-drop}
use lib.Seq.{take_all, take_at, drop_at, take-add, length-take-le}
use Rattle.std.specs.Prelude.{Result, Ok, Err}
use Rattle.wire.specs.Bytes.{pick}
use Rattle.wire.specs.declared.Refusal.{Refusal}
use Rattle.wire.specs.declared.Refusal.TheVariants.{BrokenEntry, BytesRemain}
use Rattle.wire.proofs.Lengths.{split}
use Rattle.entries.specs.Profiles.{record_size}
use Rattle.entries.specs.Entries.{entry_of, at_or_above, follows, records_good, entries_good}
use Rattle.entries.specs.declared.Profile.{Profile}
use Rattle.entries.specs.declared.Entry.{Entry}
use Rattle.report.specs.Header.{header_of, empty_header, count_of}
use Rattle.report.specs.Reader.{Whole, Stopped, part_of, judge_entries, report_of}
use Rattle.report.specs.declared.Report.{Report}
use Rattle.uncut.specs.Step.{group_in, above_in}
use Rattle.uncut.specs.Whole.{good_run}

-- ---- the rule of a row, by its first record

split_good : (e : Result Entry Refusal) (last above : ℕ) (f : ℕ → ℕ → Bool) → follows last above e f ≡ pick (follows last above e (λ g o. true)) (f (group_in e) (above_in e)) false
split_good (Ok e) last above f = go (at_or_above last above e.group e.object)
  where
    go : (b : Bool) → pick b (f e.group (suc e.object)) false ≡ pick (pick b true false) (f e.group (suc e.object)) false
    go true = refl
    go false = refl
split_good (Err refusal) last above f = refl

module _ (p : Profile) where
  pub size-pos : 0 < record_size p
  size-pos = omega arith

  module _ (r : List ℕ) (h : length r ≡ record_size p) where
    abbrev g : ℕ
    g = group_in (entry_of p r)

    abbrev o : ℕ
    o = above_in (entry_of p r)

    pub good-one : (last above : ℕ) (s : List ℕ) → records_good p 1 last above (r ++ s) ≡ records_good p 1 last above r
    unfolding records_good
    good-one last above s =
        ap (λ (x : List ℕ). follows last above (entry_of p x) (λ g o. true)) (take_at r s (record_size p) h ∙ sym (take_all (record_size p) r (omega arith)))

    pub good-next : (n last above : ℕ) (s : List ℕ)
        → records_good p (suc n) last above (r ++ s) ≡ pick (records_good p 1 last above r) (records_good p n g o s) false
    unfolding records_good
    good-next n last above s =
        ap₂ (λ (x y : List ℕ). follows last above (entry_of p x) (λ g o. records_good p n g o y)) (take_at r s (record_size p) h) (drop_at r s (record_size p) h)
        ∙ split_good (entry_of p r) last above (λ g o. records_good p n g o s)
        ∙ ap (λ (x : List ℕ). pick (follows last above (entry_of p x) (λ g o. true)) (records_good p n g o s) false) (sym (take_all (record_size p) r (omega arith)))

    pub run-next : (n last above : ℕ) (s : List ℕ) → good_run p (suc n) last above (r ++ s) ≡ pick (records_good p 1 last above r) (r ++ good_run p n g o s) []
    unfolding good_run
    run-next n last above s =
        let l : length (r ++ s) ≡ length r + length s = length-append r s in
        let m : record_size p ≤ length (r ++ s) = omega arith in
        rw (le-leb (record_size p) (length (r ++ s)) m, good-one last above s, take_at r s (record_size p) h, drop_at r s (record_size p) h)

  pub run_short : (n last above : ℕ) (s : List ℕ) → length s < record_size p → good_run p n last above s ≡ []
  unfolding good_run
  run_short zero last above s h = refl
  run_short (suc n) last above s h = rw (lt-leb (record_size p) (length s) h)

  -- ---- rows that are there: the first record, and those behind it

  module _ (n : ℕ) (s : List ℕ) (h : record_size p * suc n ≤ length s) where
    long : record_size p + record_size p * n ≤ length s
    long = omega (arith, mul-suc (record_size p) n)

    pub first-size : length (take (record_size p) s) ≡ record_size p
    first-size = length-take-le (record_size p) s (omega (arith, long))

    pub rest-long : record_size p * n ≤ length (drop (record_size p) s)
    rest-long = rw length-drop (omega (arith, long))

    pub take-first : take (record_size p * suc n) s ≡ take (record_size p) s ++ take (record_size p * n) (drop (record_size p) s)
    take-first =
        let e : record_size p * suc n ≡ record_size p + record_size p * n = omega (arith, mul-suc (record_size p) n) in
        rw e (take-add (record_size p) (record_size p * n) s)

  -- a row is judged by its own bytes
  pub good-taken : (n last above : ℕ) (s : List ℕ) → record_size p * n ≤ length s → records_good p n last above (take (record_size p * n) s) ≡ records_good p n last above s
  unfolding records_good
  good-taken zero last above s h = refl
  good-taken (suc n) last above s h =
      let r : List ℕ = take (record_size p) s in
      let t : List ℕ = drop (record_size p) s in
      let l : length (take (record_size p) s) ≡ record_size p = first-size n s h in
      ap (records_good p (suc n) last above) (take-first n s h)
      ∙ good-next (take (record_size p) s) l n last above (take (record_size p * n) (drop (record_size p) s))
      ∙ ap (λ (b : Bool). pick (records_good p 1 last above r) b false) (good-taken n (group_in (entry_of p r)) (above_in (entry_of p r)) t (rest-long n s h))
      ∙ sym (good-next (take (record_size p) s) l n last above (drop (record_size p) s))
      ∙ ap (records_good p (suc n) last above) (take-append-drop (record_size p) s)

  -- of a row that is good all records are
  pub run-all : (n last above : ℕ) (s : List ℕ) → record_size p * n ≤ length s → records_good p n last above s ≡ true → good_run p n last above s ≡ take (record_size p * n) s
  unfolding good_run
  run-all zero last above s h e = rw mul-zero
  run-all (suc n) last above s h e =
      let l : length (take (record_size p) s) ≡ record_size p = first-size n s h in
      let r : List ℕ = take (record_size p) s in
      let t : List ℕ = drop (record_size p) s in
      let d : take (record_size p) s ++ drop (record_size p) s ≡ s = take-append-drop (record_size p) s in
      let f = sym (good-next (take (record_size p) s) l n last above (drop (record_size p) s)) ∙ ap (records_good p (suc n) last above) d ∙ e in
      ap (good_run p (suc n) last above) (sym d)
      ∙ run-next (take (record_size p) s) l n last above (drop (record_size p) s)
      ∙ go (records_good p 1 last above (take (record_size p) s)) (records_good p n (group_in (entry_of p r)) (above_in (entry_of p r)) t) r (good_run p n (group_in (entry_of p r)) (above_in (entry_of p r)) t) (take (record_size p * n) t) f (run-all n (group_in (entry_of p r)) (above_in (entry_of p r)) t (rest-long n s h))
      ∙ sym (take-first n s h)
    where
      go : (b c : Bool) (x y z : List ℕ) → pick b c false ≡ true → (c ≡ true → y ≡ z) → pick b (x ++ y) [] ≡ x ++ z
      go true c x y z e f = ap (λ (w : List ℕ). x ++ w) (f e)
      go false c x y w e f = let z : ◌≡◌ {A = ℕ} 0 1 = cc in absurd (omega arith)

-- ---- how the entries are judged

abbrev pub refused_with : ℕ → Report
refused_with n = record { refusal = n; header = empty_header }

abbrev pub accepted_as : List ℕ → Report
accepted_as ns = record { refusal = 0; header = header_of ns }

-- n records behind those that leave last and above, and nothing behind them
unfoldable pub entries_from : Profile → List ℕ → ℕ → ℕ → ℕ → List ℕ → Report
entries_from p ns n last above t =
    pick (leb (record_size p * n) (length t))
    (pick (records_good p n last above t)
    (pick (eqb (record_size p * n) (length t)) (accepted_as ns) (refused_with 13)) (refused_with 12)) (refused_with 2)

-- after a bad one
abbrev pub counted_on : ℕ → List ℕ → Report
counted_on n t = pick (leb n (length t)) (refused_with 12) (refused_with 2)

-- both sides of a comparison with the same more
pub leb-more : (k a b c d : ℕ) → c ≡ k + a → d ≡ k + b → leb c d ≡ leb a b
leb-more k a b c d e f = split a b (λ h. le-leb c d (omega arith) ∙ sym (le-leb a b h)) (λ h. lt-leb c d (omega arith) ∙ sym (lt-leb a b h))

eqb-more : (k a b c d : ℕ) → c ≡ k + a → d ≡ k + b → eqb c d ≡ eqb a b
eqb-more k a b c d e f = go (eqb a b) refl
  where
    go : (t : Bool) → eqb a b ≡ t → eqb c d ≡ t
    go true t = let q = eqb-true a b t in eq-eqb c d (omega arith)
    go false t = ne_eqb c d (λ q. eqb-false a b t (omega arith))

module _ (p : Profile) (ns : List ℕ) where
  pub entries_next : (n last above : ℕ) (r s : List ℕ) → length r ≡ record_size p
      → entries_from p ns (suc n) last above (r ++ s)
      ≡ pick (records_good p 1 last above r) (entries_from p ns n (group_in (entry_of p r)) (above_in (entry_of p r)) s) (counted_on (record_size p * n) s)
  unfolding entries_from
  entries_next n last above r s h =
      let l : length (r ++ s) ≡ record_size p + length s = rw length-append (omega arith) in
      let m : record_size p * suc n ≡ record_size p + record_size p * n = omega (arith, mul-suc (record_size p) n) in
      rw (leb-more (record_size p) (record_size p * n) (length s) (record_size p * suc n) (length (r ++ s)) m l, eqb-more (record_size p) (record_size p * n) (length s) (record_size p * suc n) (length (r ++ s)) m l, good-next p r h n last above s)
      (go (records_good p 1 last above r) (leb (record_size p * n) (length s)) (records_good p n (group_in (entry_of p r)) (above_in (entry_of p r)) s) (pick (eqb (record_size p * n) (length s)) (accepted_as ns) (refused_with 13)) (refused_with 2))
    where
      go : (g l b : Bool) (a t : Report)
          → pick l (pick (pick g b false) a (refused_with 12)) t ≡ pick g (pick l (pick b a (refused_with 12)) t) (pick l (refused_with 12) t)
      go true l b a t = refl
      go false l b a t = refl

  pub entries-short : (n last above : ℕ) (s : List ℕ) → length s < record_size p → entries_from p ns (suc n) last above s ≡ refused_with 2
  unfolding entries_from
  entries-short n last above s h =
      let m : length s < record_size p * suc n = omega (arith, mul-suc (record_size p) n) in
      rw (lt-leb (record_size p * suc n) (length s) m)

  -- the whole reader judges the records from the place where the entries begin
  pub part-good : (s : List ℕ) (at : ℕ) → record_size p * count_of ns ≤ length (drop at s) → entries_good p (part_of p s ns at) ≡ records_good p (count_of ns) 0 0 (drop at s)
  part-good s at f =
      let e : length (take (record_size p * count_of ns) (drop at s)) ≡ record_size p * count_of ns = length-take-le (record_size p * count_of ns) (drop at s) f in
      let q : length (take (record_size p * count_of ns) (drop at s)) / record_size p ≡ count_of ns = ap (λ (x : ℕ). x / record_size p) e ∙ mul-div_cancel_left (count_of ns) (size-pos p) in
      ap (λ (x : ℕ). records_good p x 0 0 (part_of p s ns at)) q ∙ good-taken p (count_of ns) 0 0 (drop at s) f

  pub entries-whole : (s : List ℕ) (at : ℕ) → at ≤ length s → report_of (judge_entries p s (Whole ns at)) ≡ entries_from p ns (count_of ns) 0 0 (drop at s)
  unfolding entries_from judge_entries report_of
  entries-whole s at h =
      let n : ℕ = count_of ns in
      let l : length s ≡ at + length (drop at s) = rw length-drop (omega arith) in
      split (record_size p * count_of ns) (length (drop at s))
      (λ f.
      rw (leb-more at (record_size p * count_of ns) (length (drop at s)) (at + record_size p * count_of ns) (length s) refl l, eqb-more at (record_size p * count_of ns) (length (drop at s)) (at + record_size p * count_of ns) (length s) refl l, le-leb (record_size p * count_of ns) (length (drop at s)) f, part-good s at f)
      (go (records_good p (count_of ns) 0 0 (drop at s)) (eqb (record_size p * count_of ns) (length (drop at s)))))
      (λ f. rw (leb-more at (record_size p * count_of ns) (length (drop at s)) (at + record_size p * count_of ns) (length s) refl l, lt-leb (record_size p * count_of ns) (length (drop at s)) f))
    where
      go : (g e : Bool) → report_of (pick g (pick e (Whole ns at) (Stopped BytesRemain)) (Stopped BrokenEntry)) ≡ pick g (pick e (accepted_as ns) (refused_with 13)) (refused_with 12)
      go true true = refl
      go true false = refl
      go false e = refl
