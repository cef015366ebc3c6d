-- The key of one record, as the code finds it: by a run of one.
-- Assumes nothing.
use Prim.Native.Nat.{ℕ, ◌*◌, ◌/◌}
use mathlib.Core.Path.{◌≡◌, refl, sym, ap, ap₂, ◌∙◌}
use mathlib.Core.List.{List}
use native.Mathlib.Nat.{mul-div_cancel_left}
use native.Mathlib.Omega.{arith}
use lib.ListN.{length, take}
use lib.Seq.{take_all}
use Rattle.entries.specs.Profiles.{record_size}
use Rattle.entries.specs.Entries.{entry_of}
use Rattle.entries.specs.Runs.{run_to, run_from, run_of}
use Rattle.entries.specs.declared.Profile.{Profile}
use Rattle.entries.specs.declared.Run.{Run}
use Rattle.pieces.specs.Reading.{Key, Good, Bad, key_in, key_of}
use Rattle.pieces.proofs.Rowing.{by_key, by_key_lem}
use Rattle.uncut.proofs.Rows.{size-pos}

module _ (p : Profile) (last above : ℕ) (r : List ℕ) (h : length r ≡ record_size p) (q : Run) (e : q ≡ run_of p last above r) where
  one : length r / record_size p ≡ 1
  one = let m : length r ≡ record_size p * 1 = omega arith in ap (λ (n : ℕ). n / record_size p) m ∙ mul-div_cancel_left 1 (size-pos p)

  walked : q ≡ by_key (key_of p last above r) (λ g o. run_to 1 g o) (run_to 0 last above)
  unfolding run_from key_of
  walked =
      e ∙ ap (λ (n : ℕ). run_from p n 0 last above r) one ∙ by_key_lem last above (entry_of p (take (record_size p) r)) (λ g o. run_to 1 g o) (run_to 0 last above)
      ∙ ap (λ (x : List ℕ). by_key (key_in last above (entry_of p x)) (λ g o. run_to 1 g o) (run_to 0 last above)) (take_all (record_size p) r (omega arith))

  found : (k : Key) → key_of p last above r ≡ k → q ≡ by_key k (λ g o. run_to 1 g o) (run_to 0 last above)
  found k f = walked ∙ ap (λ (x : Key). by_key x (λ g o. run_to 1 g o) (run_to 0 last above)) f

  pub key-bad : q.good ≡ 0 → key_of p last above r ≡ Bad
  key-bad z = go (key_of p last above r) refl
    where
      go : (k : Key) → key_of p last above r ≡ k → key_of p last above r ≡ Bad
      go (Good g o) f = let y : q.good ≡ 1 = ap (λ (x : Run). x.good) (found (Good g o) f) in absurd (omega arith)
      go Bad f = f

  pub key-good : (q.good ≡ 0 → ⊥) → key_of p last above r ≡ Good q.last q.above
  key-good n = go (key_of p last above r) refl
    where
      go : (k : Key) → key_of p last above r ≡ k → key_of p last above r ≡ Good q.last q.above
      go (Good g o) f = f ∙ sym (ap₂ Good (ap (λ (x : Run). x.last) (found (Good g o) f)) (ap (λ (x : Run). x.above) (found (Good g o) f)))
      go Bad f = absurd (n (ap (λ (x : Run). x.good) (found Bad f)))
