-- A refusal that stands, and an accepted end, leave the record as it is whatever calls come: so each later call answers the same.
-- Assumes nothing.
use Prim.Native.Nat.{ℕ, zero, suc, ◌/◌, ◌≤◌, ◌<◌}
use mathlib.Core.Path.{◌≡◌, refl, sym, ap, ap₂, subst, ◌∙◌}
use mathlib.Core.Bool.{Bool, true, false}
use mathlib.Core.List.{List, [], ◌∷◌}
use native.Mathlib.Omega.{arith}
use borrow.Author.Tests.{le-leb, lt-leb}
use lib.Dec.{leb}
use lib.ListN.{length, take}
use Rattle.wire.specs.Bytes.{pick, splice, Octets}
use Rattle.wire.proofs.Lengths.{split}
use Rattle.entries.specs.Profiles.{record_size}
use Rattle.entries.specs.declared.Profile.{Profile}
use Rattle.entries.specs.declared.Profile.TheVariants.{One, Two}
use Rattle.report.specs.Header.{header_of}
use Rattle.report.specs.declared.Report.{Report}
use Rattle.uncut.specs.State.{State, Numbers, Records, Counting, Refused, Accepted, standing, report_at, at_end}
use Rattle.uncut.specs.Cutting.{closed, taking}
use Rattle.uncut.proofs.Cuts.{closed_after}
use Rattle.uncut.proofs.All.{closed-takes}
use Rattle.pieces.specs.Record.{profile_in, state_of, words_of}
use Rattle.pieces.specs.Fitness.{fit, consistent}
use Rattle.pieces.specs.Calls.{unless_refused, refused_report, take_refusal, taken_of, state_after, given_of, answer_of, refused_as, take_answer, take_after, take_bytes, end_refusal, end_answer, end_after}
use Rattle.pieces.specs.Kept.{Kept}
use Rattle.pieces.specs.Later.{Later, handed, said, later, Again, Own, accepted_as, GivenAgain}
use Rattle.pieces.specs.declared.Taken.{Taken}
use Rattle.pieces.proofs.Staying.{kept-after, kept-end}
use Rattle.pieces.proofs.Back.{words_back, profile-back, words-pass, consistent-kept}
use Rattle.pieces.proofs.Handed.{octets-taken}

no_true : {A : Type 0} → false ≡ true → A
no_true e = let z : ◌≡◌ {A = ℕ} 0 1 = cc in absurd (omega arith)

-- ---- a record that no call changes

-- so it is whatever calls come
module _ (w : List ℕ) (takes : (part xs : List ℕ) → take_after w part (length xs) ≡ w) (ends : end_after w ≡ w) where
  unchanged : (calls : List Later) → later w calls ≡ w
  unfolding later
  unchanged [] = refl
  unchanged (handed part xs ∷ calls) = ap (λ (x : List ℕ). later x calls) (takes part xs) ∙ unchanged calls
  unchanged (said ∷ calls) = ap (λ (x : List ℕ). later x calls) ends ∙ unchanged calls

  same : (taken : Taken) (ended : Report) → ((part xs : List ℕ) → record_size (profile_in w) ≤ length xs → take_answer w part (length xs) ≡ taken)
      → ((part xs : List ℕ) → take_bytes w part xs ≡ xs) → end_answer w ≡ ended → Again w taken ended
  same taken ended a b c = record {
    part = λ calls part xs h. ap (λ (x : List ℕ). take_answer x part (length xs)) (unchanged calls) ∙ a part xs h;
    buffer = λ calls part xs. ap (λ (x : List ℕ). take_bytes x part xs) (unchanged calls) ∙ b part xs;
    end = λ calls. ap end_answer (unchanged calls) ∙ c;
  }

module _ (w : List ℕ) (e : consistent w ≡ true) where
  -- ---- where a refusal stands

  module _ (m : ℕ) (q : standing (state_of w) ≡ suc m) where
    take-stays : (part xs : List ℕ) → take_after w part (length xs) ≡ w
    unfolding take_after take_refusal
    take-stays part xs = rw (e, q) (go (leb (record_size (profile_in w)) (length xs)))
      where
        go : (b : Bool) → unless_refused (pick b (suc m) 9) (words_of (profile_in w) (state_after w part (length xs))) w ≡ w
        go true = refl
        go false = refl

    bytes-stay : (part xs : List ℕ) → take_bytes w part xs ≡ xs
    unfolding take_bytes take_refusal
    bytes-stay part xs = rw (e, q) (go (leb (record_size (profile_in w)) (length xs)))
      where
        go : (b : Bool) → unless_refused (pick b (suc m) 9) (splice xs 0 (given_of w part (length xs))) xs ≡ xs
        go true = refl
        go false = refl

    end_stays : end_after w ≡ w
    unfolding end_after end_refusal
    end_stays = rw (e, q) refl

    end-again : end_answer w ≡ refused_report (suc m)
    unfolding end_answer end_refusal
    end-again = rw (e, q) refl

    take_again : (part xs : List ℕ) → record_size (profile_in w) ≤ length xs → take_answer w part (length xs) ≡ refused_as (suc m)
    unfolding take_answer take_refusal
    take_again part xs h = rw (e, le-leb (record_size (profile_in w)) (length xs) h, q) refl

    refused-again : Again w (refused_as (suc m)) (refused_report (suc m))
    refused-again = same w take-stays end_stays (refused_as (suc m)) (refused_report (suc m)) take_again bytes-stay end-again

  -- ---- where none stands

  module _ (q : standing (state_of w) ≡ 0) where
    end_on : (end_answer w ≡ report_at (at_end (state_of w))) × (end_after w ≡ words_of (profile_in w) (at_end (state_of w)))
    unfolding end_answer end_after end_refusal
    end_on = rw (e, q) (refl, refl)

    take_on : (part : List ℕ) (room : ℕ) → record_size (profile_in w) ≤ room → ((take_answer w part room).result ≡ standing (state_after w part room)) × (take_after w part room ≡ words_of (profile_in w) (state_after w part room))
    unfolding take_answer take_after take_refusal
    take_on part room h = rw (e, le-leb (record_size (profile_in w)) room h, q) (refl, refl)

  nine : (part : List ℕ) (room : ℕ) → room < record_size (profile_in w) → (take_answer w part room).result ≡ 9
  unfolding take_answer take_refusal
  nine part room h = rw (e, lt-leb (record_size (profile_in w)) room h) refl

module _ (w : List ℕ) (e : consistent w ≡ false) where
  take-one : (part : List ℕ) (room : ℕ) → (take_answer w part room).result ≡ 1
  unfolding take_answer take_refusal
  take-one part room = rw e refl

  end-one : (end_answer w).refusal ≡ 1
  unfolding end_answer end_refusal
  end-one = rw e refl

-- a refusal that stands, by any name
stood : (w : List ℕ) (n : ℕ) → consistent w ≡ true → standing (state_of w) ≡ n → (n ≡ 0 → ⊥) → Again w (refused_as n) (refused_report n)
stood w zero e q z = absurd (z refl)
stood w (suc m) e q z = refused-again w e m q

-- the words of a state on which a refusal stands
stood-words : (p : Profile) (st : State) (w : List ℕ) (n : ℕ) → Kept p st → w ≡ words_of p st → standing st ≡ n → (n ≡ 0 → ⊥) → Again w (refused_as n) (refused_report n)
stood-words p st w n k e q z = stood w n (ap consistent e ∙ words-pass p st k) (ap standing (ap state_of e ∙ words_back p st k) ∙ q) z

-- ---- a part, or the end, is refused

part-again : (w part xs : List ℕ) (n : ℕ) → Octets part → (take_answer w part (length xs)).result ≡ n → Own n → Again (take_after w part (length xs)) (refused_as n) (refused_report n)
part-again w part xs n o r z = go (consistent w) refl
  where
    by : consistent w ≡ true → record_size (profile_in w) ≤ length xs → (m : ℕ) → standing (state_of w) ≡ m → Again (take_after w part (length xs)) (refused_as n) (refused_report n)
    by e l zero q =
        let t = take_on w e q part (length xs) l in
        let k : Kept (profile_in w) (state_after w part (length xs)) = kept-after (profile_in w) (state_of w) (taken_of w part (length xs)) (consistent-kept w e) (octets-taken (taking (profile_in w) (length xs) (state_of w) part) part o) in
        stood-words (profile_in w) (state_after w part (length xs)) (take_after w part (length xs)) n k t.1 (sym t.0 ∙ r) z.0
    by e l (suc m) q =
        let s : suc m ≡ n = sym (ap (λ (x : Taken). x.result) (take_again w e m q part xs l)) ∙ r in
        stood (take_after w part (length xs)) n (ap consistent (take-stays w e m q part xs) ∙ e) (ap (λ (x : List ℕ). standing (state_of x)) (take-stays w e m q part xs) ∙ q ∙ s) z.0

    go : (b : Bool) → consistent w ≡ b → Again (take_after w part (length xs)) (refused_as n) (refused_report n)
    go false e = absurd (z.1.0 (sym r ∙ take-one w e part (length xs)))
    go true e =
        split (record_size (profile_in w)) (length xs)
        (λ l. by e l (standing (state_of w)) refl)
        (λ l. absurd (z.1.1 (sym r ∙ nine w e part (length xs) l)))

end_refused : (w : List ℕ) (n : ℕ) → (end_answer w).refusal ≡ n → Own n → Again (end_after w) (refused_as n) (refused_report n)
end_refused w n r z = go (consistent w) refl
  where
    by : consistent w ≡ true → (m : ℕ) → standing (state_of w) ≡ m → Again (end_after w) (refused_as n) (refused_report n)
    by e zero q =
        let t = end_on w e q in
        stood-words (profile_in w) (at_end (state_of w)) (end_after w) n (kept-end (profile_in w) (state_of w) (consistent-kept w e)) t.1 (sym (ap (λ (x : Report). x.refusal) t.0) ∙ r) z.0
    by e (suc m) q =
        let s : suc m ≡ n = sym (ap (λ (x : Report). x.refusal) (end-again w e m q)) ∙ r in
        stood (end_after w) n (ap consistent (end_stays w e m q) ∙ e) (ap (λ (x : List ℕ). standing (state_of x)) (end_stays w e m q) ∙ q ∙ s) z.0

    go : (b : Bool) → consistent w ≡ b → Again (end_after w) (refused_as n) (refused_report n)
    go false e = absurd (z.1.0 (sym r ∙ end-one w e))
    go true e = by e (standing (state_of w)) refl

-- ---- the report is accepted

at-end : (ns : List ℕ) → at_end (Accepted ns) ≡ Accepted ns
unfolding at_end
at-end ns = refl

module _ (p : Profile) (ns : List ℕ) (k : Kept p (Accepted ns)) (w : List ℕ) (i : w ≡ words_of p (Accepted ns)) where
  passes : consistent w ≡ true
  passes = ap consistent i ∙ words-pass p (Accepted ns) k

  state-is : state_of w ≡ Accepted ns
  state-is = ap state_of i ∙ words_back p (Accepted ns) k

  profile-is : profile_in w ≡ p
  profile-is = ap profile_in i ∙ profile-back p (Accepted ns)

  none : standing (state_of w) ≡ 0
  none = ap standing state-is

  after_is : (part : List ℕ) (room : ℕ) → (state_after w part room ≡ Accepted ns) × ((taken_of w part room ≡ []) × (given_of w part room ≡ []))
  after_is part room =
      let z : taking (profile_in w) room (state_of w) part ≡ 0 = ap (λ (x : State). taking (profile_in w) room x part) state-is ∙ closed-takes (profile_in w) room (Accepted ns) part refl in
      let c = closed_after (profile_in w) (state_of w) (taken_of w part room) (ap closed state-is) in
      (c.0 ∙ state-is, (ap (λ (n : ℕ). take n part) z, c.1))

  accepted-stays : (part xs : List ℕ) → take_after w part (length xs) ≡ w
  unfolding take_after take_refusal
  accepted-stays part xs = rw (passes, none) (go (leb (record_size (profile_in w)) (length xs)))
    where
      go : (b : Bool) → unless_refused (pick b 0 9) (words_of (profile_in w) (state_after w part (length xs))) w ≡ w
      go true = ap₂ words_of profile-is (after_is part (length xs)).0 ∙ sym i
      go false = refl

  accepted-bytes : (part xs : List ℕ) → take_bytes w part xs ≡ xs
  unfolding take_bytes take_refusal
  accepted-bytes part xs = rw (passes, none) (go (leb (record_size (profile_in w)) (length xs)))
    where
      go : (b : Bool) → unless_refused (pick b 0 9) (splice xs 0 (given_of w part (length xs))) xs ≡ xs
      go true = ap (splice xs 0) (after_is part (length xs)).1.1
      go false = refl

  end-on-accepted : (end_answer w ≡ report_at (Accepted ns)) × (end_after w ≡ w)
  end-on-accepted =
      let t = end_on w passes none in
      let q : at_end (state_of w) ≡ Accepted ns = ap at_end state-is ∙ at-end ns in
      (t.0 ∙ ap report_at q, t.1 ∙ ap₂ words_of profile-is q ∙ sym i)

  accepted-answer : (part xs : List ℕ) → record_size (profile_in w) ≤ length xs → take_answer w part (length xs) ≡ accepted_as (header_of ns)
  unfolding take_answer take_refusal
  accepted-answer part xs h =
      let a = after_is part (length xs) in
      rw (passes, le-leb (record_size (profile_in w)) (length xs) h, none, a.0, a.1.1, a.1.0) (zeros (profile_in w))
    where
      zeros : (q : Profile) → answer_of (Accepted ns) 0 (0 / record_size q) ≡ accepted_as (header_of ns)
      zeros One = refl
      zeros Two = refl

  accepted-again : Again w (accepted_as (header_of ns)) (report_at (Accepted ns))
  accepted-again = same w accepted-stays end-on-accepted.1 (accepted_as (header_of ns)) (report_at (Accepted ns)) accepted-answer accepted-bytes end-on-accepted.0

-- an end that is not refused is an accepted one
record IsAccepted (x : State) : Type 0 where
  ns : List ℕ
  is : x ≡ Accepted ns

accepted-is : (p : Profile) (st : State) → fit p st ≡ true → standing (at_end st) ≡ 0 → IsAccepted (at_end st)
unfolding at_end fit
accepted-is p (Numbers ns held) f q = absurd (omega arith)
accepted-is p (Records ns zero last above held) f q = record { ns = ns; is = refl }
accepted-is p (Records ns (suc n) last above held) f q = absurd (omega arith)
accepted-is p (Counting ns zero) f q = absurd (omega arith)
accepted-is p (Counting ns (suc n)) f q = absurd (omega arith)
accepted-is p (Refused n) f q = no_true (rw q at f)
accepted-is p (Accepted ns) f q = record { ns = ns; is = refl }

end-accepted : (w : List ℕ) → (end_answer w).refusal ≡ 0 → Again (end_after w) (accepted_as (end_answer w).header) (end_answer w)
end-accepted w r = go (consistent w) refl
  where
    by : consistent w ≡ true → (m : ℕ) → standing (state_of w) ≡ m → Again (end_after w) (accepted_as (end_answer w).header) (end_answer w)
    by e zero q =
        let t = end_on w e q in
        let k : Kept (profile_in w) (at_end (state_of w)) = kept-end (profile_in w) (state_of w) (consistent-kept w e) in
        let a = accepted-is (profile_in w) (state_of w) (consistent-kept w e).fits (sym (ap (λ (x : Report). x.refusal) t.0) ∙ r) in
        subst (λ (x : Report). Again (end_after w) (accepted_as x.header) x) (sym (t.0 ∙ ap report_at a.is))
        (accepted-again (profile_in w) a.ns (subst (Kept (profile_in w)) a.is k) (end_after w) (t.1 ∙ ap (words_of (profile_in w)) a.is))
    by e (suc m) q = let z : suc m ≡ 0 = sym (ap (λ (x : Report). x.refusal) (end-again w e m q)) ∙ r in absurd (omega arith)

    go : (b : Bool) → consistent w ≡ b → Again (end_after w) (accepted_as (end_answer w).header) (end_answer w)
    go false e = let z : ◌≡◌ {A = ℕ} 1 0 = sym (end-one w e) ∙ r in absurd (omega arith)
    go true e = by e (standing (state_of w)) refl

pub given-again : GivenAgain
given-again = record { part = part-again; end = end_refused; accepted = end-accepted }
