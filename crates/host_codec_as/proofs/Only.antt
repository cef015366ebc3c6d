-- Only one: two results that meet the contract of an exported call, as its source states it, are equal, and so are the lent slices that they leave.
-- Assumes nothing.
use mathlib.Core.Path.{sym, ◌∙◌}
use Rattle.wire.proofs.Only.{OneAnswer, OneBuffer}
use Rattle.host_codec_as.proofs.lumbixet_read_frequency_as.Reads as read-frequency-as
use Rattle.host_codec_as.proofs.lumbixet_read_frequency_as.Kinds as read-frequency-as-kinds
use Rattle.host_codec_as.proofs.lumbixet_read_ack_as.Reads as read-ack-as
use Rattle.host_codec_as.proofs.lumbixet_read_ack_as.Kinds as read-ack-as-kinds

pub read-frequency-as-one : OneAnswer 1 read-frequency-as-kinds.ps read-frequency-as-kinds.r read-frequency-as.Post
read-frequency-as-one κs given x y s t p q = p ∙ sym q

pub read-ack-as-one : OneBuffer 2 read-ack-as-kinds.ps read-ack-as-kinds.r (λ κs s. s.1.1.0.now) read-ack-as.Post
read-ack-as-one κs given x y s t p q = (p.0 ∙ sym q.0, p.1 ∙ sym q.1)
