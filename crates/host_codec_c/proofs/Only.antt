-- Only one: two results that meet the contract of an exported call, as its source states it, are equal, and so are the lent buffers that they leave.
-- Assumes nothing.
use mathlib.Core.Path.{sym, ◌∙◌}
use Rattle.wire.proofs.Only.{OneAnswer, OneBuffer}
use Rattle.host_codec_c.proofs.lumbixet_read_number.Reads as read_number
use Rattle.host_codec_c.proofs.lumbixet_read_number.Kinds as read-number-kinds
use Rattle.host_codec_c.proofs.lumbixet_put_number.Reads as put-number
use Rattle.host_codec_c.proofs.lumbixet_put_number.Kinds as put-number-kinds
use Rattle.host_codec_c.proofs.lumbixet_read_frequency.Reads as read-frequency
use Rattle.host_codec_c.proofs.lumbixet_read_frequency.Kinds as read-frequency-kinds
use Rattle.host_codec_c.proofs.lumbixet_read_immediate.Reads as read-immediate
use Rattle.host_codec_c.proofs.lumbixet_read_immediate.Kinds as read-immediate-kinds
use Rattle.host_codec_c.proofs.lumbixet_read_ack.Reads as read-ack
use Rattle.host_codec_c.proofs.lumbixet_read_ack.Kinds as read-ack-kinds
use Rattle.host_codec_c.proofs.lumbixet_put_frequency.Reads as put-frequency
use Rattle.host_codec_c.proofs.lumbixet_put_frequency.Kinds as put-frequency-kinds
use Rattle.host_codec_c.proofs.lumbixet_put_immediate.Reads as put-immediate
use Rattle.host_codec_c.proofs.lumbixet_put_immediate.Kinds as put-immediate-kinds

pub read-number-one : OneAnswer 1 read-number-kinds.ps read-number-kinds.r read_number.Post
read-number-one κs given x y s t p q = p ∙ sym q

pub put-number-one : OneBuffer 1 put-number-kinds.ps put-number-kinds.r (λ κs s. s.0.now) put-number.Post
put-number-one κs given x y s t p q = (p.0 ∙ sym q.0, p.1 ∙ sym q.1)

pub read-frequency-one : OneAnswer 1 read-frequency-kinds.ps read-frequency-kinds.r read-frequency.Post
read-frequency-one κs given x y s t p q = p ∙ sym q

pub read-immediate-one : OneAnswer 1 read-immediate-kinds.ps read-immediate-kinds.r read-immediate.Post
read-immediate-one κs given x y s t p q = p ∙ sym q

pub read-ack-one : OneBuffer 2 read-ack-kinds.ps read-ack-kinds.r (λ κs s. s.1.0.now) read-ack.Post
read-ack-one κs given x y s t p q = (p.0 ∙ sym q.0, p.1 ∙ sym q.1)

pub put-frequency-one : OneBuffer 1 put-frequency-kinds.ps put-frequency-kinds.r (λ κs s. s.0.now) put-frequency.Post
put-frequency-one κs given x y s t p q = (p.0 ∙ sym q.0, p.1 ∙ sym q.1)

pub put-immediate-one : OneBuffer 1 put-immediate-kinds.ps put-immediate-kinds.r (λ κs s. s.0.now) put-immediate.Post
put-immediate-one κs given x y s t p q = (p.0 ∙ sym q.0, p.1 ∙ sym q.1)
