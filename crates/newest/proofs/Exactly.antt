-- The refusal table for the newest lost object, proved: every reading ends in one row, and each row's condition leads there.
-- Assumes nothing.
use Prim.Native.Nat.{ℕ, ◌+◌, ◌*◌}
use mathlib.Core.Path.{◌≡◌, refl, sym, ap, ◌∙◌, subst}
use mathlib.Core.Logic.{◌⊎◌, inl, inr, ⊎_elim}
use mathlib.Core.Bool.{Bool, true, false}
use mathlib.Core.List.{List, [], ◌∷◌}
use native.Mathlib.Omega.{arith}
use borrow.Author.Tests.{le-leb, lt-leb, eq-eqb, ne_eqb, leb-true, leb-false, eqb-true, eqb-false}
use lib.Arith.{lt_of_le-ne}
use lib.Dec.{leb, eqb}
use lib.ListN.{length}
use Rattle.std.specs.Prelude.{Err}
use Rattle.wire.specs.Bytes.{pick}
use Rattle.wire.specs.Exactly.{OneOf}
use Rattle.wire.specs.Refusals.{number_of, refusal_number}
use Rattle.wire.specs.declared.Refusal.{Refusal}
use Rattle.wire.specs.declared.Refusal.TheVariants.{Ends, BrokenCount, OtherTotal, BrokenEntry, BytesRemain, LongerForm, OtherProfile}
use Rattle.entries.specs.Profiles.{record_size}
use Rattle.entries.specs.declared.Profile.{Profile}
use Rattle.entries.proofs.Profiles.{of-known, of_other}
use Rattle.report.specs.Header.{judge, count_of}
use Rattle.report.specs.Reader.{Reading, Whole, Stopped, read_numbers, part_of}
use Rattle.report.specs.Exactly.{Headed, EndsInside, Longer, Faulty, TooFew}
use Rattle.report.proofs.Rows.{Table, end, row, Row, one_of}
use Rattle.report.proofs.Places.{place-judged}
use Rattle.report.proofs.Heeding.{number-some, refused-as}
use Rattle.report.proofs.ByNumber.{by as by_number}
use Rattle.report.proofs.Following.{End, inside, longer, fault, header, numbers-end, headed-whole, open-ends, open-longer, open-fault}
use Rattle.newest.specs.Search.{newest_in}
use Rattle.newest.specs.Newest.{after_numbers, newest_lost, newest_by}
use Rattle.newest.specs.Exactly.{BadRead, Remain, Exact, NewestRows, NewestReads, NewestReadsBy}
use Rattle.newest.proofs.Outcome.{bad-refused, twelve-or}

module _ (p : Profile) where
  abbrev table : List ℕ → Table
  table s =
      row 0 (Exact p s (λ part n. BadRead p part n → ⊥))
      (row 2 (EndsInside p s ⊎ TooFew p s)
      (row 10 (Faulty p 10 s)
      (row 11 (Faulty p 11 s)
      (row 12 (Exact p s (BadRead p))
      (row 13 (Remain p s)
      (row 15 (Longer p s) end))))))

  -- every reading ends in a row
  in_row : (s : List ℕ) (r : Reading) → End p s r → Row (table s) (refusal_number (after_numbers p s r))
  unfolding after_numbers
  in_row s (Stopped refusal) (inside x) = inl x
  in_row s (Stopped refusal) (longer x) = x
  in_row s (Stopped refusal) (fault f) = go (place-judged p f.ns f.v).others
    where
      go : OneOf (refusal_number (judge p f.ns f.v)) (0 ∷ 10 ∷ 11 ∷ []) → Row (table s) (number_of refusal)
      go (inl e) = absurd (number-some refusal (sym f.fault ∙ e))
      go (inr (inl e)) = let q : number_of refusal ≡ 10 = sym f.fault ∙ e in subst (Row (table s)) (sym q) (subst (λ (m : ℕ). Faulty p m s) q f)
      go (inr (inr (inl e))) = let q : number_of refusal ≡ 11 = sym f.fault ∙ e in subst (Row (table s)) (sym q) (subst (λ (m : ℕ). Faulty p m s) q f)
      go (inr (inr (inr e))) = elim e [ ]
  in_row s (Whole ns at) (header h) = go (leb (at + record_size p * count_of ns) (length s)) (eqb (at + record_size p * count_of ns) (length s)) refl refl
    where
      searched-row : at + record_size p * count_of ns ≡ length s → Row (table s) (refusal_number (newest_in p (part_of p s ns at) (count_of ns)))
      searched-row e =
          ⊎_elim
          (λ q. let y : Row (table s) 12 = record { ns = ns; at = at; header = h; end = e; holds = q.1 } in subst (Row (table s)) (sym q.0) y)
          (λ q. let y : Row (table s) 0 = record { ns = ns; at = at; header = h; end = e; holds = q.1 } in subst (Row (table s)) (sym q.0) y)
          (twelve-or p (part_of p s ns at) (count_of ns))

      go : (a b : Bool) → leb (at + record_size p * count_of ns) (length s) ≡ a → eqb (at + record_size p * count_of ns) (length s) ≡ b
          → Row (table s) (refusal_number (pick a (pick b (newest_in p (part_of p s ns at) (count_of ns)) (Err BytesRemain)) (Err Ends)))
      go true true f q = searched-row (eqb-true (at + record_size p * count_of ns) (length s) q)
      go true false f q =
          record { ns = ns; at = at; header = h; remain = lt_of_le-ne (leb-true (at + record_size p * count_of ns) (length s) f) (eqb-false (at + record_size p * count_of ns) (length s) q) }
      go false b f q = inr (record { ns = ns; at = at; header = h; few = leb-false (at + record_size p * count_of ns) (length s) f })

  -- ---- and each row's condition leads there

  module _ (s : List ℕ) where
    pub by : (r : Reading) → read_numbers p s ≡ r → newest_lost p s ≡ after_numbers p s r
    by r e = ap (after_numbers p s) e

    pub to_inside : EndsInside p s → newest_lost p s ≡ Err Ends
    unfolding after_numbers
    to_inside x = by (Stopped Ends) (open-ends p s x.ns x.at x.far x.ends)

    pub to-longer : Longer p s → newest_lost p s ≡ Err LongerForm
    unfolding after_numbers
    to-longer x = by (Stopped LongerForm) (open-longer p s x.ns x.at x.far x.v x.next x.reads)

    pub to-fault : (refusal : Refusal) → Faulty p (number_of refusal) s → newest_lost p s ≡ Err refusal
    unfolding after_numbers
    to-fault refusal f = by (Stopped refusal) (open-fault p s f.ns f.at f.far f.v f.next refusal f.reads (refused-as (judge p f.ns f.v) refusal f.fault))

    pub to-few : TooFew p s → newest_lost p s ≡ Err Ends
    unfolding after_numbers
    to-few x = by (Whole x.ns x.at) (headed-whole p s x.ns x.at x.header) ∙ rw (lt-leb (x.at + record_size p * count_of x.ns) (length s) x.few)

    pub to-remain : Remain p s → newest_lost p s ≡ Err BytesRemain
    unfolding after_numbers
    to-remain x =
        by (Whole x.ns x.at) (headed-whole p s x.ns x.at x.header)
        ∙ rw (le-leb (x.at + record_size p * count_of x.ns) (length s) (omega (arith, x.remain)), ne_eqb (x.at + record_size p * count_of x.ns) (length s) (λ e. omega (arith, x.remain)))

    -- nothing remains: the answer is the search's
    pub at-end : (ns : List ℕ) (at : ℕ) → Headed p s ns at → at + record_size p * count_of ns ≡ length s → newest_lost p s ≡ newest_in p (part_of p s ns at) (count_of ns)
    unfolding after_numbers
    at-end ns at h e =
        by (Whole ns at) (headed-whole p s ns at h)
        ∙ rw (le-leb (at + record_size p * count_of ns) (length s) (omega arith), eq-eqb (at + record_size p * count_of ns) (length s) e)

    to-bad : Exact p s (BadRead p) → newest_lost p s ≡ Err BrokenEntry
    to-bad x = at-end x.ns x.at x.header x.end ∙ bad-refused p (part_of p s x.ns x.at) (count_of x.ns) x.holds

    to-good : Exact p s (λ part n. BadRead p part n → ⊥) → refusal_number (newest_lost p s) ≡ 0
    to-good x =
        ap refusal_number (at-end x.ns x.at x.header x.end)
        ∙ ⊎_elim (λ q. absurd (x.holds q.1)) (λ q. q.0) (twelve-or p (part_of p s x.ns x.at) (count_of x.ns))

    at_row : (n : ℕ) → refusal_number (newest_lost p s) ≡ n → Row (table s) n
    at_row n e = subst (Row (table s)) e (in_row s (read_numbers p s) (numbers-end p s))

pub newest-reads : NewestReads
newest-reads p s = record {
  two = (λ e. at_row p s 2 e, λ q. ap refusal_number (⊎_elim (to_inside p s) (to-few p s) q));
  ten = (λ e. at_row p s 10 e, λ q. ap refusal_number (to-fault p s BrokenCount q));
  eleven = (λ e. at_row p s 11 e, λ q. ap refusal_number (to-fault p s OtherTotal q));
  twelve = (λ e. at_row p s 12 e, λ q. ap refusal_number (to-bad p s q));
  thirteen = (λ e. at_row p s 13 e, λ q. ap refusal_number (to-remain p s q));
  fifteen = (λ e. at_row p s 15 e, λ q. ap refusal_number (to-longer p s q));
  accepted = (λ e. at_row p s 0 e, to-good p s);
  others = one_of (table p s) (refusal_number (newest_lost p s)) (at_row p s (refusal_number (newest_lost p s)) refl);
}

pub newest-reads-by : NewestReadsBy
newest-reads-by profile s =
    by_number (λ p. NewestRows p s) (0 ∷ 2 ∷ 10 ∷ 11 ∷ 12 ∷ 13 ∷ 15 ∷ []) (λ p n r. r.others) none profile (refusal_number (newest_by profile s))
    (λ p e. rw (of-known profile (Err OtherProfile) (λ p. newest_lost p s) p e) (newest-reads p s))
    (λ o. ap refusal_number (of_other profile (Err OtherProfile) (λ p. newest_lost p s) o))
  where
    none : OneOf 18 (0 ∷ 2 ∷ 10 ∷ 11 ∷ 12 ∷ 13 ∷ 15 ∷ []) → ⊥
    none (inl e) = eqb-false 18 0 refl e
    none (inr (inl e)) = eqb-false 18 2 refl e
    none (inr (inr (inl e))) = eqb-false 18 10 refl e
    none (inr (inr (inr (inl e)))) = eqb-false 18 11 refl e
    none (inr (inr (inr (inr (inl e))))) = eqb-false 18 12 refl e
    none (inr (inr (inr (inr (inr (inl e)))))) = eqb-false 18 13 refl e
    none (inr (inr (inr (inr (inr (inr (inl e))))))) = eqb-false 18 15 refl e
    none (inr (inr (inr (inr (inr (inr (inr e))))))) = elim e [ ]
