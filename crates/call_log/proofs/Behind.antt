-- The parts of a line: what stands behind a part goes along, and the parts behind each other are the line.
-- Assumes nothing.
use Prim.Native.Nat.{ℕ}
use mathlib.Core.Path.{◌≡◌}
use mathlib.Core.List.{List, [], ◌∷◌, ◌++◌}
use Rattle.texts.specs.Forms.{bytes, number, or_null}
use Rattle.texts.specs.Hex.{hex_text}
use Rattle.texts.proofs.Filling.{filled-tail}
use Rattle.seen.specs.declared.Micros.{Micros}
use Rattle.receiver.specs.declared.Verdict.{Verdict}
use Rattle.call_log.specs.declared.Call.{Call}
use Rattle.call_log.specs.declared.Now.{Now}
use Rattle.call_log.specs.Line.{time_text, call_form, call_values, call_text, answer_form, answer_values, answer_text, is_write, frame_form, frame_text, agreed_text, seen_text, due_text, line_text}
use Rattle.call_log.specs.Laid.{Laid}

pub time-tail : (time : Micros) (tl : List ℕ) → time_text time [] ++ tl ≡ time_text time tl
unfolding time_text
time-tail time tl = filled-tail (bytes "{\"time\":#") (number time.0 ∷ []) 0 tl

pub call-tail : (call : Call) (tl : List ℕ) → call_text call [] ++ tl ≡ call_text call tl
unfolding call_text
call-tail call tl = filled-tail (bytes (call_form call)) (call_values call) 0 tl

pub answer-tail : (verdict : Verdict) (tl : List ℕ) → answer_text verdict [] ++ tl ≡ answer_text verdict tl
unfolding answer_text
answer-tail verdict tl = filled-tail (bytes (answer_form verdict)) (answer_values verdict) 0 tl

pub frame-tail : (call : Call) (frame tl : List ℕ) → frame_text call frame [] ++ tl ≡ frame_text call frame tl
unfolding frame_text
frame-tail call frame tl = filled-tail (bytes (frame_form (is_write call))) (hex_text frame ∷ []) 0 tl

pub agreed-tail : (now : Now) (tl : List ℕ) → agreed_text now [] ++ tl ≡ agreed_text now tl
unfolding agreed_text
agreed-tail now tl =
    filled-tail (bytes ",\"now\":{\"threshold\":#,\"reordering\":#,\"delay\":#,\"sequence\":#")
    (number now.threshold ∷ number now.reordering ∷ number now.delay.0 ∷ or_null now.sequence ∷ []) 0 tl

pub seen-tail : (now : Now) (tl : List ℕ) → seen_text now [] ++ tl ≡ seen_text now tl
unfolding seen_text
seen-tail now tl =
    filled-tail (bytes ",\"largest\":#,\"floor\":#,\"acknowledged\":#")
    (or_null now.largest ∷ number now.floor ∷ or_null now.acknowledged ∷ []) 0 tl

pub due-tail : (now : Now) (tl : List ℕ) → due_text now [] ++ tl ≡ due_text now tl
unfolding due_text
due-tail now tl = filled-tail (bytes ",\"pending\":#,\"cause\":#}}\n") (number now.pending ∷ number now.cause ∷ []) 0 tl

module _ (time : Micros) (call : Call) (verdict : Verdict) (frame : List ℕ) (now : Now) where
  pub parts : (tl : List ℕ) → time_text time [] ++ (call_text call [] ++ (answer_text verdict [] ++ (frame_text call frame [] ++ (agreed_text now [] ++ (seen_text now [] ++ due_text now tl))))) ≡ line_text time call verdict frame now tl
  parts tl =
      rw (seen-tail now (due_text now tl), agreed-tail now (seen_text now (due_text now tl)), frame-tail call frame (agreed_text now (seen_text now (due_text now tl))), answer-tail verdict (frame_text call frame (agreed_text now (seen_text now (due_text now tl)))), call-tail call (answer_text verdict (frame_text call frame (agreed_text now (seen_text now (due_text now tl))))))
      (time-tail time (call_text call (answer_text verdict (frame_text call frame (agreed_text now (seen_text now (due_text now tl)))))))

  -- the parts were laid behind each other
  pub line-laid : {xs ys : List ℕ} {end : ℕ}
      → Laid xs 0 (time_text time [] ++ (call_text call [] ++ (answer_text verdict [] ++ (frame_text call frame [] ++ (agreed_text now [] ++ (seen_text now [] ++ due_text now [])))))) ys end
      → Laid xs 0 (line_text time call verdict frame now []) ys end
  line-laid h = rw (parts []) at h
