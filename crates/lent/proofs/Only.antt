-- Only one: two results that meet the contract of a call, as its source states it, are equal, and so are the records, and for write the buffers, that they leave with the host.
-- It is said of `clauses`, the contract as an assertion, since a function over a lent record has no `Reads`: where both assertions hold, so does that fact.
-- Assumes nothing.
use Prim.Native.Nat.{ℕ}
use mathlib.Core.Path.{◌≡◌, sym, ◌∙◌}
use mathlib.Core.List.{List}
use seplogic.Ra.Ura.{Ura}
use base.Logic.{SProp, ent}
use prog.Memory.{Memory}
use prog.Routine.{Routine}
use types.Logic.{Logic}
use contract.Monad.{Fun, conj, conj_l, conj_r, fact, fact_i, fact_use}
use contract.Lifetimes.{Lfts}
use denote.Triple.Entry.{Args, Res}
use denote.Triple.Clauses.{Ended, AtExit, Clauses}
use Rattle.receiver.specs.declared.Receiver.{Receiver}
use Rattle.lent.specs.contracts.lumbixet_packet_lent as packet
use Rattle.lent.specs.contracts.lumbixet_timer_lent as timer
use Rattle.lent.specs.contracts.lumbixet_write_lent as write

-- what a contract says of a call is fixed by what the call is given: its answer, and what the host finds in what it lent
abbrev pub OneLeft : {M : Type 1} (𝓤 : Ura M) (T : Ended) {D : Type 0} → ((κs : Lfts T.signature.lifetimes) → AtExit T κs → D) → Clauses 𝓤 T → Type 1
OneLeft 𝓤 T left clauses =
    (κs : Lfts T.signature.lifetimes) (given : Args T.signature κs) (ghost : (clauses κs given).ghost) (x y : Res T.signature κs) (s t : AtExit T κs)
    → ent 𝓤 (conj 𝓤 ((clauses κs given).ensures ghost x s) ((clauses κs given).ensures ghost y t)) (fact 𝓤 ((x ≡ y) × (left κs s ≡ left κs t)))

module _ {M : Type 1} {𝓤 : Ura M} (𝓛 : Logic 𝓤) (at_mem : Memory → SProp 𝓤) (run : Routine → Fun 𝓤) where
  -- two facts that hold together give a third
  both : (P Q R : Type 0) → (P → Q → R) → ent 𝓤 (conj 𝓤 (fact 𝓤 P) (fact 𝓤 Q)) (fact 𝓤 R)
  both P Q R f = fact_use 𝓤 P (conj_l 𝓤 (fact 𝓤 P) (fact 𝓤 Q)) (λ p. fact_use 𝓤 Q (conj_r 𝓤 (fact 𝓤 P) (fact 𝓤 Q)) (λ q. fact_i 𝓤 R (conj 𝓤 (fact 𝓤 P) (fact 𝓤 Q)) (f p q)))

  pub packet-one : OneLeft 𝓤 packet.ended (λ κs s. s.0.now) (packet.clauses 𝓛 at_mem run)
  packet-one κs given ghost x y s t = both _ _ _ (λ p q. (p.0 ∙ sym q.0, p.1 ∙ sym q.1))

  pub timer-one : OneLeft 𝓤 timer.ended (λ κs s. s.0.now) (timer.clauses 𝓛 at_mem run)
  timer-one κs given ghost x y s t = both _ _ _ (λ p q. (p.0 ∙ sym q.0, p.1 ∙ sym q.1))

  pub write-one : OneLeft 𝓤 write.ended {D = Receiver × List ℕ} (λ κs s. (s.0.now, s.1.1.1.0.now)) (write.clauses 𝓛 at_mem run)
  write-one κs given ghost x y s t = both _ _ _ (λ p q. (p.0 ∙ sym q.0, λ i. ((p.1 ∙ sym q.1) i, (p.2 ∙ sym q.2) i)))
