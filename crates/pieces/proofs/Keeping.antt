-- What is served stays so: a byte leaves what is carried unfinished, the metrics within their limit and the records within theirs.
-- Assumes nothing.
use Prim.Native.Nat.{ℕ, zero, suc, ◌+◌, ◌-◌, ◌*◌, ◌≤◌, ◌<◌, zero-le}
use mathlib.Core.Path.{◌≡◌, refl, sym, ap, ◌∙◌}
use mathlib.Core.Logic.{inl, inr}
use mathlib.Core.Bool.{Bool, true, false}
use mathlib.Core.List.{List, [], ◌∷◌, ◌++◌}
use native.Mathlib.Omega.{arith}
use borrow.Author.Tests.{leb-true, leb-false, ltb-true}
use lib.Dec.{leb, ltb}
use lib.ListN.{length, get_or, length-append, get_or-append, get_or-eq_default}
use lib.Seq.{get_or-append_seam}
use Rattle.std.specs.Prelude.{Result, Ok, Err}
use Rattle.wire.specs.Bytes.{pick}
use Rattle.wire.specs.Fields.{formed}
use Rattle.wire.specs.Numbers.{read_number}
use Rattle.wire.specs.declared.Number.{Number}
use Rattle.wire.specs.Refusals.{refusal_number}
use Rattle.wire.specs.declared.Refusal.{Refusal}
use Rattle.wire.proofs.Lengths.{split}
use Rattle.wire.proofs.Reading.{number-ends}
use Rattle.entries.specs.Limits.{most_entries}
use Rattle.entries.specs.Profiles.{record_size, most_metrics}
use Rattle.entries.specs.Entries.{entry_of, records_good}
use Rattle.entries.specs.declared.Profile.{Profile}
use Rattle.report.specs.Layout.{at_metrics, fixed_numbers}
use Rattle.report.specs.Header.{heeding, judge, judge_field, wanted_of, count_of}
use Rattle.report.proofs.Heeding.{number-refused}
use Rattle.report.proofs.Places.{place-judged}
use Rattle.uncut.specs.State.{State, Numbers, Records, Counting, Refused, Accepted}
use Rattle.uncut.specs.Step.{group_in, above_in, after_bad, refused, with_number, field_grown, record_judged, record_grown, step, after}
use Rattle.pieces.specs.Serving.{Ready}
use Rattle.uncut.proofs.Rows.{size-pos}

module _ (p : Profile) where
  -- a number that brings no refusal, where a further one is wanted
  module _ (ns : List ℕ) (v : ℕ) (c : Bool) (j : judge_field p ns v c ≡ Ok tt) (w : length ns < wanted_of p ns) (m : get_or ns at_metrics 0 ≤ most_metrics p) where
    good : judge p ns v ≡ Ok tt
    good = go c j
      where
        go : (b : Bool) → judge_field p ns v b ≡ Ok tt → judge p ns v ≡ Ok tt
        go true e = e
        go false e = absurd (cc)

    none : refusal_number (judge p ns v) ≡ 0
    none = ap refusal_number good

    long : length (ns ++ (v ∷ [])) ≡ length ns + 1
    long = length-append ns (v ∷ [])

    pub metrics-within : get_or (ns ++ (v ∷ [])) at_metrics 0 ≤ most_metrics p
    metrics-within =
        split fixed_numbers (length ns)
        (λ l. rw (get_or-append ns (v ∷ []) 0 at_metrics (omega arith)) m)
        (λ l. split at_metrics (length ns)
        (λ k.
        let e : length ns ≡ at_metrics = omega arith in
        let f : get_or (ns ++ (v ∷ [])) at_metrics 0 ≡ v = ap (λ (x : ℕ). get_or (ns ++ (v ∷ [])) x 0) (sym e) ∙ get_or-append_seam ns v [] 0 in
        rw f (split v (most_metrics p) (λ h. h) (λ h. let t : refusal_number (judge p ns v) ≡ 10 = (place-judged p ns v).ten.1 (inl (record { place = e; above = h })) in absurd (omega (arith, none)))))
        (λ k. let f : get_or (ns ++ (v ∷ [])) at_metrics 0 ≡ 0 = get_or-eq_default (ns ++ (v ∷ [])) 0 {n = at_metrics} (omega (arith, long)) in rw f zero-le))

    pub count-last : count_of (ns ++ (v ∷ [])) ≡ v
    count-last =
        let e : length (ns ++ (v ∷ [])) - 1 ≡ length ns = omega (arith, long) in
        ap (λ (x : ℕ). get_or (ns ++ (v ∷ [])) x 0) e ∙ get_or-append_seam ns v [] 0

    pub count-within : wanted_of p (ns ++ (v ∷ [])) ≤ length (ns ++ (v ∷ [])) → count_of (ns ++ (v ∷ [])) ≤ most_entries
    count-within h =
        split fixed_numbers (length ns)
        (λ l.
        let f : get_or (ns ++ (v ∷ [])) at_metrics 0 ≡ get_or ns at_metrics 0 = get_or-append ns (v ∷ []) 0 at_metrics (omega arith) in
        let h' : wanted_of p ns ≤ length (ns ++ (v ∷ [])) = rw f at h in
        let n : length ns ≡ fixed_numbers + 2 * get_or ns at_metrics 0 = omega (arith, long) in
        rw count-last (split v most_entries (λ k. k)
        (λ k. let t : refusal_number (judge p ns v) ≡ 10 = (place-judged p ns v).ten.1 (inr (inr (record { place = record { behind = l; even = λ o. omega arith }; last = omega arith; above = k }))) in absurd (omega (arith, none)))))
        (λ l. absurd (omega (arith, long, wants)))
      where
        wants : fixed_numbers + 1 ≤ wanted_of p (ns ++ (v ∷ []))
        wants = omega arith

  -- ---- one byte more

  ready-number : (ns : List ℕ) → get_or ns at_metrics 0 ≤ most_metrics p → (wanted_of p ns ≤ length ns → count_of ns ≤ most_entries) → Ready p (with_number p ns)
  unfolding with_number
  ready-number ns m f = go (leb (wanted_of p ns) (length ns)) refl
    where
      go : (b : Bool) → leb (wanted_of p ns) (length ns) ≡ b → Ready p (pick b (Records ns (count_of ns) 0 0 []) (Numbers ns []))
      go true e = (size-pos p, f (leb-true (wanted_of p ns) (length ns) e))
      go false e = ((leb-false (wanted_of p ns) (length ns) e, sym (number-ends [] 0 zero-le)), m)

  ready-field : (ns held : List ℕ) → length ns < wanted_of p ns → get_or ns at_metrics 0 ≤ most_metrics p → Ready p (field_grown p ns held)
  unfolding field_grown
  ready-field ns held w m = go (read_number held 0) refl
    where
      judged : (v : ℕ) (c : Bool) (x : Result Unit Refusal) → judge_field p ns v c ≡ x → Ready p (heeding x refused (with_number p (ns ++ (v ∷ []))))
      judged v c (Ok u) j = ready-number (ns ++ (v ∷ [])) (metrics-within ns v c j w m) (count-within ns v c j w m)
      judged v c (Err refusal) j = tt

      go : (q : Result Number Refusal) → read_number held 0 ≡ q
          → Ready p (formed q (Numbers ns held) (λ v next b. heeding (judge_field p ns v b) refused (with_number p (ns ++ (v ∷ [])))))
      go (Ok k) e = judged k.value k.shortest (judge_field p ns k.value k.shortest) refl
      go (Err refusal) e = ((w, e ∙ ap Err (number-refused held 0 e)), m)

  ready-record : (ns : List ℕ) (n last above : ℕ) (held : List ℕ) → suc n ≤ most_entries → Ready p (record_grown p ns n last above held)
  unfolding record_grown record_judged
  ready-record ns n last above held h = go (ltb (length held) (record_size p)) refl (records_good p 1 last above held)
    where
      go : (b : Bool) → ltb (length held) (record_size p) ≡ b → (g : Bool)
          → Ready p (pick b (Records ns (suc n) last above held) (pick g (Records ns n (group_in (entry_of p held)) (above_in (entry_of p held)) []) (after_bad p ns n)))
      go true e g = (ltb-true (length held) (record_size p) e, h)
      go false e true = (size-pos p, omega arith)
      go false e false = tt

  pub ready-step : (st : State) (b : ℕ) → Ready p st → Ready p (step p st b)
  unfolding step
  ready-step (Numbers ns held) b h = ready-field ns (held ++ (b ∷ [])) h.0.0 h.1
  ready-step (Records ns zero last above held) b h = tt
  ready-step (Records ns (suc n) last above held) b h = ready-record ns n last above (held ++ (b ∷ [])) h.1
  ready-step (Counting ns zero) b h = tt
  ready-step (Counting ns (suc n)) b h = tt
  ready-step (Refused n) b h = tt
  ready-step (Accepted ns) b h = tt

  pub ready-after : (st : State) (s : List ℕ) → Ready p st → Ready p (after p st s)
  unfolding after
  ready-after st [] h = h
  ready-after st (b ∷ s) h = ready-after (step p st b) s (ready-step st b h)
