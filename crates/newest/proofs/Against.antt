-- Beside the full reading: of a report that it accepts all records stand, and elsewhere the rows of both tables decide.
-- Assumes nothing.
use Prim.Native.Nat.{ℕ, suc, ◌+◌, ◌*◌, ◌<◌}
use mathlib.Core.Path.{◌≡◌, refl, sym, ap, ◌∙◌, subst}
use mathlib.Core.Logic.{inl, inr, ⊎_elim}
use mathlib.Core.List.{List, [], ◌∷◌}
use native.Mathlib.Omega.{arith}
use borrow.Author.Tests.{eqb-false}
use lib.ListN.{length}
use Rattle.std.specs.Prelude.{Err}
use Rattle.wire.specs.Exactly.{OneOf}
use Rattle.wire.specs.Refusals.{refusal_number}
use Rattle.wire.specs.declared.Refusal.TheVariants.{BrokenCount, OtherTotal, BrokenEntry}
use Rattle.entries.specs.Profiles.{record_size}
use Rattle.entries.specs.Entries.{group_of, behind, object_of, record_at, entry_at}
use Rattle.entries.specs.Exactly.{Below, Obeys}
use Rattle.entries.specs.declared.Profile.{Profile}
use Rattle.entries.proofs.Verdicts.{key-is}
use Rattle.report.specs.Header.{count_of, header_of}
use Rattle.report.specs.Reader.{Reading, part_of, report_of, read_report, entries_in, entries_of}
use Rattle.report.specs.Exactly.{Sound, BadEntry}
use Rattle.report.proofs.Exactly.{report-reads, sound-judged}
use Rattle.report.proofs.Agreeing.{both-agree}
use Rattle.newest.specs.Search.{newest_in}
use Rattle.newest.specs.Newest.{newest_lost}
use Rattle.newest.specs.Exactly.{Stands, BadRead, Last}
use Rattle.newest.specs.Against.{WhereTwelve, AgainstFull}
use Rattle.newest.proofs.Outcome.{all-stand, bad-refused, good-last, twelve-or}
use Rattle.newest.proofs.Exactly.{to_inside, to-longer, to-fault, to-few, to-remain, at-end}

-- records that obey the full reader's rule stand
obeys-stands : (p : Profile) (s : List ℕ) (n : ℕ) → ((i : ℕ) → i < n → Obeys p s i) → (j : ℕ) → j < n → Stands p s n j
obeys-stands p s n f j l =
    let x = f j l in
    record {
      group = x.group;
      object = x.object;
      status = x.status;
      age = x.age;
      entry = x.entry;
      below = λ m. next m (f (suc j) m) x;
    }
  where
    next : suc j < n → Obeys p s (suc j) → (x : Obeys p s j) → Below x.group x.object (group_of p (record_at p s (suc j))) (object_of (behind p (record_at p s (suc j))))
    next m y x =
        let k = key-is p (record_at p s j) (entry_at p s j) x.group x.object x.status x.age x.entry refl in
        let z = key-is p (record_at p s (suc j)) (entry_at p s (suc j)) y.group y.object y.status y.age y.entry refl in
        rw (← k.group, ← k.object, z.group, z.object) (y.rises j refl)

module _ (p : Profile) (s : List ℕ) where
  -- ---- an accepted report

  module _ (e : (read_report p s).refusal ≡ 0) where
    x : Sound p s
    x = (report-reads p s).accepted.0 e

    abbrev records : List ℕ
    records = entries_of p s

    abbrev count : ℕ
    count = (read_report p s).header.entries

    count-is : count ≡ count_of x.ns
    unfolding report_of header_of
    count-is = ap (λ (r : Reading). (report_of r).header.entries) (sound-judged p s x)

    records-are : records ≡ part_of p s x.ns x.at
    unfolding entries_in
    records-are = ap (entries_in p s) (sound-judged p s x)

    search_is : newest_lost p s ≡ newest_in p records count
    search_is = at-end p s x.ns x.at x.header x.end ∙ rw (count-is, records-are)

    accepted : Last p records count (newest_lost p s)
    accepted = subst (Last p records count) (sym search_is) (good-last p records count (all-stand p records count (obeys-stands p records count ((both-agree p s).each e))))

  -- ---- a refused one

  refused : ((read_report p s).refusal ≡ 0 → ⊥) → ((read_report p s).refusal ≡ 12 → ⊥) → refusal_number (newest_lost p s) ≡ (read_report p s).refusal
  refused zero twelve = go (report-reads p s).others
    where
      go : OneOf (read_report p s).refusal (0 ∷ 2 ∷ 10 ∷ 11 ∷ 12 ∷ 13 ∷ 15 ∷ []) → refusal_number (newest_lost p s) ≡ (read_report p s).refusal
      go (inl e) = absurd (zero e)
      go (inr (inl e)) = ap refusal_number (⊎_elim (to_inside p s) (to-few p s) ((report-reads p s).two.0 e)) ∙ sym e
      go (inr (inr (inl e))) = ap refusal_number (to-fault p s BrokenCount ((report-reads p s).ten.0 e)) ∙ sym e
      go (inr (inr (inr (inl e)))) = ap refusal_number (to-fault p s OtherTotal ((report-reads p s).eleven.0 e)) ∙ sym e
      go (inr (inr (inr (inr (inl e))))) = absurd (twelve e)
      go (inr (inr (inr (inr (inr (inl e)))))) =
          let b = (report-reads p s).thirteen.0 e in
          ap refusal_number (to-remain p s (record { ns = b.ns; at = b.at; header = b.header; remain = b.remain })) ∙ sym e
      go (inr (inr (inr (inr (inr (inr (inl e))))))) = ap refusal_number (to-longer p s ((report-reads p s).fifteen.0 e)) ∙ sym e
      go (inr (inr (inr (inr (inr (inr (inr e))))))) = elim e [ ]

  where-twelve : BadEntry p s → WhereTwelve p s
  where-twelve b = record {
    ns = b.ns;
    at = b.at;
    header = b.header;
    remain = λ h. to-remain p s (record { ns = b.ns; at = b.at; header = b.header; remain = h });
    bad = λ h. (λ q. noticed h q, λ q. at-end p s b.ns b.at b.header h ∙ bad-refused p (part_of p s b.ns b.at) (count_of b.ns) q);
    unnoticed = λ h no. subst (Last p (part_of p s b.ns b.at) (count_of b.ns)) (sym (at-end p s b.ns b.at b.header h)) (good-last p (part_of p s b.ns b.at) (count_of b.ns) no);
    there = λ h. omega (arith, b.there);
  }
    where
      noticed : b.at + record_size p * count_of b.ns ≡ length s → newest_lost p s ≡ Err BrokenEntry → BadRead p (part_of p s b.ns b.at) (count_of b.ns)
      noticed h q =
          let t : refusal_number (newest_in p (part_of p s b.ns b.at) (count_of b.ns)) ≡ 12 = ap refusal_number (sym (at-end p s b.ns b.at b.header h) ∙ q) in
          ⊎_elim (λ y. y.1) (λ y. absurd (eqb-false 12 0 refl (sym t ∙ y.0))) (twelve-or p (part_of p s b.ns b.at) (count_of b.ns))

pub against-full : AgainstFull
against-full p s = record { accepted = accepted p s; refused = refused p s; twelve = λ e. where-twelve p s ((report-reads p s).twelve.0 e) }
