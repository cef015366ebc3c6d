-- How a refusal comes to stand: it stood, a field brought it, or a byte too many came.
-- Assumes nothing.
use Prim.Native.Nat.{ℕ, zero, suc}
use mathlib.Core.Path.{◌≡◌, refl, sym, ap, ◌∙◌}
use mathlib.Core.Logic.{◌⊎◌, inl, inr, ⊎_elim}
use mathlib.Core.Bool.{Bool, true, false}
use mathlib.Core.List.{List, [], ◌∷◌, ◌++◌}
use native.Mathlib.Omega.{arith}
use lib.Dec.{leb, ltb}
use lib.ListN.{length}
use Rattle.std.specs.Prelude.{Result, Ok, Err}
use Rattle.wire.specs.Bytes.{pick}
use Rattle.wire.specs.Fields.{found, formed}
use Rattle.wire.specs.Numbers.{read_number}
use Rattle.wire.specs.declared.Number.{Number}
use Rattle.wire.specs.Refusals.{number_of, refusal_number}
use Rattle.wire.specs.declared.Refusal.{Refusal}
use Rattle.entries.specs.Profiles.{record_size}
use Rattle.entries.specs.Entries.{entry_of, records_good}
use Rattle.entries.specs.declared.Profile.{Profile}
use Rattle.report.specs.Header.{heeding, judge_field, wanted_of, count_of}
use Rattle.uncut.specs.State.{State, Numbers, Records, Counting, Refused, Accepted}
use Rattle.uncut.specs.Step.{group_in, above_in, after_bad, refused, with_number, field_grown, record_judged, record_grown, step, after}
use Rattle.pieces.specs.Exactly.{Faulty, TooMany}
use Rattle.uncut.proofs.Cuts.{after-append}

-- the refusal of a state that has one
number_at : State → ℕ
number_at (Numbers ns held) = 0
number_at (Records ns n last above held) = 0
number_at (Counting ns n) = 0
number_at (Refused n) = suc n
number_at (Accepted ns) = 0

module _ (p : Profile) where
  -- what one byte refuses
  abbrev pub Came : State → List ℕ → ℕ → Type 0
  Came st s n = (st ≡ Refused n) ⊎ (Faulty p st s n ⊎ (TooMany p st s × (n ≡ 13)))

  no-refusal : {A : Type 0} (st : State) (n : ℕ) → number_at st ≡ 0 → st ≡ Refused n → A
  unfolding number_at
  no-refusal st n z e = let y : suc n ≡ 0 = sym (ap number_at e) ∙ z in absurd (omega arith)

  same_number : (m n : ℕ) → Refused m ≡ Refused n → m ≡ n
  same_number m n e = cc

  now-field : (ns held : List ℕ) (b : ℕ) (s : List ℕ) (n : ℕ) → field_grown p ns (held ++ (b ∷ [])) ≡ Refused n → Faulty p (Numbers ns held) (b ∷ s) n
  unfolding field_grown with_number number_at after
  now-field ns held b s n e = go (read_number (held ++ (b ∷ [])) 0) refl e
    where
      more : (x : List ℕ) (c : Bool) → pick c (Records x (count_of x) 0 0 []) (Numbers x []) ≡ Refused n → ⊥
      more x true e = no-refusal (Records x (count_of x) 0 0 []) n refl e
      more x false e = no-refusal (Numbers x []) n refl e

      judged : (v next : ℕ) (c : Bool) → read_number (held ++ (b ∷ [])) 0 ≡ found v next c → (x : Result Unit Refusal) → judge_field p ns v c ≡ x → heeding x refused (with_number p (ns ++ (v ∷ []))) ≡ Refused n → Faulty p (Numbers ns held) (b ∷ s) n
      judged v next c r (Ok u) j e = absurd (more (ns ++ (v ∷ [])) (leb (wanted_of p (ns ++ (v ∷ []))) (length (ns ++ (v ∷ [])))) e)
      judged v next c r (Err refusal) j e =
          record { front = []; b = b; rest = s; ns = ns; held = held; v = v; next = next; shortest = c; cut = refl; before = refl; whole = r; brings = ap refusal_number j ∙ same_number (number_of refusal) n e }

      go : (q : Result Number Refusal) → read_number (held ++ (b ∷ [])) 0 ≡ q
          → formed q (Numbers ns (held ++ (b ∷ []))) (λ v next c. heeding (judge_field p ns v c) refused (with_number p (ns ++ (v ∷ [])))) ≡ Refused n → Faulty p (Numbers ns held) (b ∷ s) n
      go (Ok k) r e = judged k.value k.next k.shortest r (judge_field p ns k.value k.shortest) refl e
      go (Err refusal) r e = no-refusal (Numbers ns (held ++ (b ∷ []))) n refl e

  no_record : (ns : List ℕ) (k last above : ℕ) (held : List ℕ) (n : ℕ) → record_grown p ns k last above held ≡ Refused n → ⊥
  unfolding record_grown record_judged number_at
  no_record ns k last above held n e = go (ltb (length held) (record_size p)) (records_good p 1 last above held) e
    where
      go : (a b : Bool) → pick a (Records ns (suc k) last above held) (pick b (Records ns k (group_in (entry_of p held)) (above_in (entry_of p held)) []) (after_bad p ns k)) ≡ Refused n → ⊥
      go true b e = no-refusal (Records ns (suc k) last above held) n refl e
      go false true e = no-refusal (Records ns k (group_in (entry_of p held)) (above_in (entry_of p held)) []) n refl e
      go false false e = no-refusal (after_bad p ns k) n refl e

  now-came : (st : State) (b : ℕ) (s : List ℕ) (n : ℕ) → step p st b ≡ Refused n → Came st (b ∷ s) n
  unfolding step number_at after
  now-came (Numbers ns held) b s n e = inr (inl (now-field ns held b s n e))
  now-came (Records ns zero last above held) b s n e =
      inr (inr (record { front = []; b = b; rest = s; ns = ns; last = last; above = above; held = held; cut = refl; before = refl }, sym (same_number 13 n e)))
  now-came (Records ns (suc k) last above held) b s n e = absurd (no_record ns k last above (held ++ (b ∷ [])) n e)
  now-came (Counting ns zero) b s n e = no-refusal (Counting ns zero) n refl e
  now-came (Counting ns (suc k)) b s n e = no-refusal (Counting ns k) n refl e
  now-came (Refused k) b s n e = inl e
  now-came (Accepted ns) b s n e = no-refusal (Accepted ns) n refl e

  later-came : (st : State) (b : ℕ) (s : List ℕ) (n : ℕ) → Came (step p st b) s n → Came st (b ∷ s) n
  unfolding after
  later-came st b s n c =
      ⊎_elim (λ e. now-came st b s n e)
      (⊎_elim
      (λ f. inr (inl (record { front = b ∷ f.front; b = f.b; rest = f.rest; ns = f.ns; held = f.held; v = f.v; next = f.next; shortest = f.shortest; cut = ap (λ (x : List ℕ). b ∷ x) f.cut; before = f.before; whole = f.whole; brings = f.brings })))
      (λ f. inr (inr (record { front = b ∷ f.0.front; b = f.0.b; rest = f.0.rest; ns = f.0.ns; last = f.0.last; above = f.0.above; held = f.0.held; cut = ap (λ (x : List ℕ). b ∷ x) f.0.cut; before = f.0.before }, f.1)))) c

  pub came : (st : State) (s : List ℕ) (n : ℕ) → after p st s ≡ Refused n → Came st s n
  unfolding after
  came st [] n e = inl e
  came st (b ∷ s) n e = later-came st b s n (came (step p st b) s n e)

  -- ---- and each of them brings it

  stays : (n : ℕ) (s : List ℕ) → after p (Refused n) s ≡ Refused n
  unfolding after step
  stays n [] = refl
  stays n (b ∷ s) = stays n s

  pub stood : (st : State) (s : List ℕ) (n : ℕ) → st ≡ Refused n → after p st s ≡ Refused n
  stood st s n e = ap (λ (x : State). after p x s) e ∙ stays n s

  refuses : (x : Result Unit Refusal) (st : State) (n : ℕ) → (n ≡ 0 → ⊥) → refusal_number x ≡ n → heeding x refused st ≡ Refused n
  refuses (Ok u) st n z e = absurd (z (sym e))
  refuses (Err refusal) st n z e = ap Refused e

  pub faulty : (st : State) (s : List ℕ) (n : ℕ) → (n ≡ 0 → ⊥) → Faulty p st s n → after p st s ≡ Refused n
  unfolding after step field_grown
  faulty st s n z f =
      let j : heeding (judge_field p f.ns f.v f.shortest) refused (with_number p (f.ns ++ (f.v ∷ []))) ≡ Refused n = refuses (judge_field p f.ns f.v f.shortest) (with_number p (f.ns ++ (f.v ∷ []))) n z f.brings in
      let a : step p (Numbers f.ns f.held) f.b ≡ Refused n = rw (f.whole, j) refl in
      ap (after p st) f.cut ∙ after-append p st f.front (f.b ∷ f.rest) ∙ ap (λ (x : State). after p x (f.b ∷ f.rest)) f.before ∙ ap (λ (x : State). after p x f.rest) a ∙ stays n f.rest

  pub too_many : (st : State) (s : List ℕ) → TooMany p st s → after p st s ≡ Refused 13
  unfolding after step
  too_many st s f =
      ap (after p st) f.cut ∙ after-append p st f.front (f.b ∷ f.rest) ∙ ap (λ (x : State). after p x (f.b ∷ f.rest)) f.before ∙ stays 13 f.rest
