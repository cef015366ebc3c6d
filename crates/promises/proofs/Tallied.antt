-- The invariant behind demand 3, over numbers alone, and that each kind of accepted call keeps it: each cause that was set is paid for once.
-- Assumes nothing.
use Prim.Native.Nat.{ℕ, zero, suc, ◌+◌, ◌-◌, ◌*◌, ◌/◌, ◌≤◌, ◌<◌, min}
use mathlib.Core.Path.{◌≡◌, refl}
use mathlib.Core.List.{List, ◌∷◌}
use native.Mathlib.Omega.{arith}
use native.Mathlib.Nat.{le_trans, le_refl, mul-le-mul_left, mul-le-mul_right, suc-mul, mul-suc, mul-add, mul-one, suc-ne-zero, le-div_iff_mul-le}
use Rattle.receiver.specs.Packet.{standing}
use Rattle.promises.specs.Accepted.{Packet}
use Rattle.promises.specs.Told.{largest, eliciting_of}
use Rattle.promises.specs.Passed.{passed_over}
use Rattle.promises.proofs.Packets.{largest-grows, highest-grows, highest-below}
use Rattle.promises.proofs.Passed.{late, below, late-mono, late-le, below-le, below-mono, passed_over-mono}

-- The packets, E, F, W, the smallest T, C + I + D; T and R in force, A, N and the cause.
pub record Tallied (ps : List Packet) (e f w t x threshold reordering acknowledged n c : ℕ) : Type 0 where
  -- how often cause 2 was set, and cause 3 before the last accepted threshold frame and since
  pub by_count : ℕ
  pub order_before : ℕ
  pub order_since : ℕ
  -- each cause 2 took T + 1 packets, and those since the last write are not yet spent
  pub least : t ≤ threshold
  pub counts : by_count * (t + 1) ≤ e
  pub counting : c ≡ 0 → by_count * (t + 1) + n ≤ e
  -- each cause 3 took a number passed over: with R up to 1 as it was passed over or came late, from 2 up once it lay R below the numbers acknowledged
  pub before : order_before ≤ 2 * passed_over ps * f
  pub near : reordering ≤ 1 → order_since ≤ late ps + below ps (largest (eliciting_of ps))
  pub far : 2 ≤ reordering → order_since ≤ below ps (largest ps - min reordering 1023)
  pub idle : 2 ≤ reordering → c ≡ 0 → order_since ≤ below ps (acknowledged - min reordering 1023)
  -- each write took a cause, and one that stands is not yet spent
  pub total : w ≤ by_count + order_before + order_since + x
  pub due : (c ≡ 0 → ⊥) → w + 1 ≤ by_count + order_before + order_since + x

past : (q : Packet) (ps : List Packet) (f : ℕ) {b : ℕ} → b ≤ 2 * passed_over ps * f → b ≤ 2 * passed_over (q ∷ ps) * f
past q ps f h = le_trans h (mul-le-mul_right f (mul-le-mul_left 2 (passed_over-mono q ps)))

module _ {ps : List Packet} {e f w t x threshold reordering acknowledged n : ℕ} where
  -- nothing happens but that the sum may grow
  pub more : {c : ℕ} (x' : ℕ) → x ≤ x' → Tallied ps e f w t x threshold reordering acknowledged n c → Tallied ps e f w t x' threshold reordering acknowledged n c
  more x' l v =
      record {
        by_count = v.by_count;
        order_before = v.order_before;
        order_since = v.order_since;
        least = v.least;
        counts = v.counts;
        counting = v.counting;
        before = v.before;
        near = v.near;
        far = v.far;
        idle = v.idle;
        total = omega (arith, v.total);
        due = λ d. omega (arith, v.due d);
      }

  -- causes 1, 4 and 5: the sum pays
  pub paid : (d x' : ℕ) → x + 1 ≤ x' → Tallied ps e f w t x threshold reordering acknowledged n 0 → Tallied ps e f w t x' threshold reordering acknowledged n (suc d)
  paid d x' l v =
      record {
        by_count = v.by_count;
        order_before = v.order_before;
        order_since = v.order_since;
        least = v.least;
        counts = v.counts;
        counting = λ z. absurd (suc-ne-zero d z);
        before = v.before;
        near = v.near;
        far = v.far;
        idle = λ h z. absurd (suc-ne-zero d z);
        total = omega (arith, v.total);
        due = λ z. omega (arith, v.total);
      }

  -- cause 2: T + 1 packets pay
  pub counted_step : threshold < n → Tallied ps e f w t x threshold reordering acknowledged n 0 → Tallied ps e f w t x threshold reordering acknowledged n 2
  counted_step l v =
      record {
        by_count = suc v.by_count;
        order_before = v.order_before;
        order_since = v.order_since;
        least = v.least;
        counts = rw suc-mul (omega (arith, v.counting refl, v.least));
        counting = λ z. absurd (suc-ne-zero 1 z);
        before = v.before;
        near = v.near;
        far = v.far;
        idle = λ h z. absurd (suc-ne-zero 1 z);
        total = omega (arith, v.total);
        due = λ z. omega (arith, v.total);
      }

  -- the cause d is set if none stands, as by a timer call or IMMEDIATE_ACK; d may be 0, no cause
  pub set-step : (c d x' : ℕ) → x + 1 ≤ x' → Tallied ps e f w t x threshold reordering acknowledged n c → Tallied ps e f w t x' threshold reordering acknowledged n (standing c d)
  set-step (suc c) d x' l v = more x' (omega arith) v
  set-step zero zero x' l v = more x' (omega arith) v
  set-step zero (suc d) x' l v = paid d x' l v

  -- a write while an acknowledgment is due
  pub write_step : {c : ℕ} → (c ≡ 0 → ⊥) → Tallied ps e f w t x threshold reordering acknowledged n c → Tallied ps e f (w + 1) t x threshold reordering (largest ps) 0 0
  write_step d v =
      record {
        by_count = v.by_count;
        order_before = v.order_before;
        order_since = v.order_since;
        least = v.least;
        counts = v.counts;
        counting = λ z. omega (arith, v.counts);
        before = v.before;
        near = v.near;
        far = v.far;
        idle = λ h z. v.far h;
        total = v.due d;
        due = λ z. absurd (z refl);
      }

  -- what the epoch's cause 3 comes to: at most twice the numbers passed over
  pub epoch : {c : ℕ} (v : Tallied ps e f w t x threshold reordering acknowledged n c) → v.order_since ≤ 2 * passed_over ps
  epoch v = go reordering v.near v.far
    where
      go : (reordering : ℕ) → (reordering ≤ 1 → v.order_since ≤ late ps + below ps (largest (eliciting_of ps))) → (2 ≤ reordering → v.order_since ≤ below ps (largest ps - min reordering 1023)) → v.order_since ≤ 2 * passed_over ps
      go zero p o = omega (arith, p (omega arith), late-le ps, below-le ps (largest (eliciting_of ps)) (highest-below ps))
      go (suc zero) p o = omega (arith, p (omega arith), late-le ps, below-le ps (largest (eliciting_of ps)) (highest-below ps))
      go (suc (suc reordering)) p o = omega (arith, o (omega arith), below-le ps (largest ps - min (suc (suc reordering)) 1023) (omega arith))

  -- an accepted threshold frame: a new epoch
  pub change-step :
      {c : ℕ} (threshold' reordering' : ℕ)
      → Tallied ps e f w t x threshold reordering acknowledged n c
      → Tallied ps e (suc f) w (min t threshold') x threshold' reordering' acknowledged n c
  change-step threshold' reordering' v =
      record {
        by_count = v.by_count;
        order_before = v.order_before + v.order_since;
        order_since = 0;
        least = omega arith;
        counts = omega (arith, v.counts, fewer);
        counting = λ z. omega (arith, v.counting z, fewer);
        before = rw mul-suc (omega (arith, v.before, epoch v));
        near = λ z. omega arith;
        far = λ z. omega arith;
        idle = λ z o. omega arith;
        total = omega (arith, v.total);
        due = λ z. omega (arith, v.due z);
      }
    where
      fewer : v.by_count * (min t threshold' + 1) ≤ v.by_count * (t + 1)
      fewer = mul-le-mul_left v.by_count (omega arith)

  -- a packet: what was passed over can only grow
  module _ (q : Packet) (e' x' n' : ℕ) (he : e ≤ e') (hn : e + n' ≤ e' + n) (hx : x ≤ x') where
    pub grown : {c : ℕ} → Tallied ps e f w t x threshold reordering acknowledged n c → Tallied (q ∷ ps) e' f w t x' threshold reordering acknowledged n' c
    grown v =
        record {
          by_count = v.by_count;
          order_before = v.order_before;
          order_since = v.order_since;
          least = v.least;
          counts = omega (arith, v.counts);
          counting = λ z. omega (arith, v.counting z);
          before = past q ps f v.before;
          near = λ h. omega (arith, v.near h, late-mono q ps, below-mono q ps (highest-grows q ps));
          far = λ h. le_trans (v.far h) (below-mono q ps (omega (arith, largest-grows q ps)));
          idle = λ h z. le_trans (v.idle h z) (below-mono q ps (le_refl (acknowledged - min reordering 1023)));
          total = omega (arith, v.total);
          due = λ z. omega (arith, v.due z);
        }

    -- cause 3: a number passed over pays
    pub ordered :
        (reordering ≤ 1 → late ps + below ps (largest (eliciting_of ps)) + 1 ≤ late (q ∷ ps) + below (q ∷ ps) (largest (eliciting_of (q ∷ ps))))
        → (2 ≤ reordering → below ps (acknowledged - min reordering 1023) + 1 ≤ below (q ∷ ps) (largest (q ∷ ps) - min reordering 1023))
        → Tallied ps e f w t x threshold reordering acknowledged n 0
        → Tallied (q ∷ ps) e' f w t x' threshold reordering acknowledged n' 3
    ordered p o v =
        record {
          by_count = v.by_count;
          order_before = v.order_before;
          order_since = suc v.order_since;
          least = v.least;
          counts = omega (arith, v.counts);
          counting = λ z. absurd (suc-ne-zero 2 z);
          before = past q ps f v.before;
          near = λ h. omega (arith, v.near h, p h);
          far = λ h. omega (arith, v.idle h refl, o h);
          idle = λ h z. absurd (suc-ne-zero 2 z);
          total = omega (arith, v.total);
          due = λ z. omega (arith, v.total);
        }

  -- the bound
  pub bounded : {c : ℕ} → Tallied ps e f w t x threshold reordering acknowledged n c → w ≤ e / (t + 1) + 2 * passed_over ps * (f + 1) + x
  bounded v =
      let p : v.by_count ≤ e / (t + 1) = (le-div_iff_mul-le {k = t + 1} (omega arith)).1 v.counts in
      rw (mul-add, mul-one) (omega (arith, v.total, v.before, epoch v))
