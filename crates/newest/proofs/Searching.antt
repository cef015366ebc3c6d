-- The search, one record at a time: how the record that is read ends it or carries it on.
-- Assumes nothing.
use Prim.Native.Nat.{ℕ, zero, suc, ◌-◌, ◌≤◌, ◌<◌}
use mathlib.Core.Path.{◌≡◌, sym, ap, ◌∙◌}
use mathlib.Core.Bool.{true, false}
use mathlib.Core.List.{List}
use native.Mathlib.Omega.{arith}
use Rattle.std.specs.Prelude.{Option, Result, Ok, Err}
use Rattle.wire.specs.declared.Refusal.{Refusal}
use Rattle.wire.specs.declared.Refusal.TheVariants.{BrokenEntry}
use Rattle.entries.specs.Entries.{entry_at, at_or_above}
use Rattle.entries.specs.declared.Profile.{Profile}
use Rattle.entries.specs.declared.Entry.{Entry}
use Rattle.newest.specs.Search.{found, nothing, is_lost, judged, searched}
use Rattle.newest.specs.declared.Lost.{Lost}

pub turn : (p : Profile) (s : List ℕ) (left top next : ℕ) → 0 < left → searched p s left top next ≡ judged top next (entry_at p s (left - 1)) (searched p s (left - 1))
unfolding searched
turn p s zero top next h = absurd (omega arith)
turn p s (suc n) top next h = let e : suc n - 1 ≡ n = omega arith in rw e

pub none_left : (p : Profile) (s : List ℕ) (left top next : ℕ) → left ≤ 0 → nothing ≡ searched p s left top next
unfolding searched
none_left p s left top next h = let e : left ≡ 0 = omega arith in rw e

-- e is what the code read of the record, and R the answer of the whole search
module _ (p : Profile) (s : List ℕ) (left top next : ℕ) (R : Result (Option Lost) Refusal) (e : Result Entry Refusal) (h : 0 < left) (g : e ≡ entry_at p s (left - 1))
    (inv : searched p s left top next ≡ R) where
  here : judged top next e (searched p s (left - 1)) ≡ R
  here = ap (λ (x : Result Entry Refusal). judged top next x (searched p s (left - 1))) g ∙ sym (turn p s left top next h) ∙ inv

  pub stop-broken : (refusal : Refusal) → e ≡ Err refusal → Err BrokenEntry ≡ R
  stop-broken refusal t = rw t at here

  module _ (x : Entry) (t : e ≡ Ok x) where
    pub stop-order : at_or_above x.group (suc x.object) top next ≡ false → Err BrokenEntry ≡ R
    stop-order l = rw (t, l) at here

    pub stop-found : at_or_above x.group (suc x.object) top next ≡ true → is_lost x.status ≡ true → found x.group x.object ≡ R
    stop-found l m = rw (t, l, m) at here

    pub more-record : at_or_above x.group (suc x.object) top next ≡ true → is_lost x.status ≡ false → searched p s (left - 1) x.group x.object ≡ R
    more-record l m = rw (t, l, m) at here
