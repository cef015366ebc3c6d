-- Only one: two results that meet the contract of a public call, as its source states it, are equal, and so are the lent buffers that they leave.
-- Assumes nothing.
use mathlib.Core.Path.{sym, ◌∙◌}
use Rattle.wire.proofs.Only.{OneAnswer, OneBuffer}
use Rattle.frames.proofs.frequency_frame.read_frequency.Reads as read-frequency
use Rattle.frames.proofs.frequency_frame.read_frequency.Kinds as read-frequency-kinds
use Rattle.frames.proofs.frequency_frame.read_frequency_as.Reads as read-frequency-as
use Rattle.frames.proofs.frequency_frame.read_frequency_as.Kinds as read-frequency-as-kinds
use Rattle.frames.proofs.immediate_frame.read_immediate.Reads as read-immediate
use Rattle.frames.proofs.immediate_frame.read_immediate.Kinds as read-immediate-kinds
use Rattle.frames.proofs.ack_frame.read_ack.Reads as read-ack
use Rattle.frames.proofs.ack_frame.read_ack.Kinds as read-ack-kinds
use Rattle.frames.proofs.ack_frame.read_ack_as.Reads as read-ack-as
use Rattle.frames.proofs.ack_frame.read_ack_as.Kinds as read-ack-as-kinds
use Rattle.frames.proofs.ack_frame.check_ack.Reads as check-ack
use Rattle.frames.proofs.ack_frame.check_ack.Kinds as check-ack-kinds
use Rattle.frames.proofs.ack_ranges.read_range.Reads as read-range
use Rattle.frames.proofs.ack_ranges.read_range.Kinds as read-range-kinds
use Rattle.frames.proofs.frequency_frame.put_frequency.Reads as put-frequency
use Rattle.frames.proofs.frequency_frame.put_frequency.Kinds as put-frequency-kinds
use Rattle.frames.proofs.immediate_frame.put_immediate.Reads as put-immediate
use Rattle.frames.proofs.immediate_frame.put_immediate.Kinds as put-immediate-kinds

pub read-frequency-one : OneAnswer 1 read-frequency-kinds.ps read-frequency-kinds.r read-frequency.Post
read-frequency-one κs given x y s t p q = p ∙ sym q

pub read-frequency-as-one : OneAnswer 1 read-frequency-as-kinds.ps read-frequency-as-kinds.r read-frequency-as.Post
read-frequency-as-one κs given x y s t p q = p ∙ sym q

pub read-immediate-one : OneAnswer 1 read-immediate-kinds.ps read-immediate-kinds.r read-immediate.Post
read-immediate-one κs given x y s t p q = p ∙ sym q

pub read-ack-one : OneBuffer 2 read-ack-kinds.ps read-ack-kinds.r (λ κs s. s.1.0.now) read-ack.Post
read-ack-one κs given x y s t p q = (p.0 ∙ sym q.0, p.1 ∙ sym q.1)

pub read-ack-as-one : OneBuffer 2 read-ack-as-kinds.ps read-ack-as-kinds.r (λ κs s. s.1.1.0.now) read-ack-as.Post
read-ack-as-one κs given x y s t p q = (p.0 ∙ sym q.0, p.1 ∙ sym q.1)

pub check-ack-one : OneAnswer 1 check-ack-kinds.ps check-ack-kinds.r check-ack.Post
check-ack-one κs given x y s t p q = p ∙ sym q

pub read-range-one : OneAnswer 1 read-range-kinds.ps read-range-kinds.r read-range.Post
read-range-one κs given x y s t p q = p ∙ sym q

pub put-frequency-one : OneBuffer 1 put-frequency-kinds.ps put-frequency-kinds.r (λ κs s. s.0.now) put-frequency.Post
put-frequency-one κs given x y s t p q = (p.0 ∙ sym q.0, p.1 ∙ sym q.1)

pub put-immediate-one : OneBuffer 1 put-immediate-kinds.ps put-immediate-kinds.r (λ κs s. s.0.now) put-immediate.Post
put-immediate-one κs given x y s t p q = (p.0 ∙ sym q.0, p.1 ∙ sym q.1)
