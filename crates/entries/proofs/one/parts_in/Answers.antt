-- `entries::parts_in` meets its contract: within a record every field is there, and the status and the zero bytes are read as one.
-- Assumes nothing.
use Rattle.std.proofs.Common.{arith}
use Rattle.entries.proofs.Fields.{never_ends, field_is, parts_are, parts-missing}
use Rattle.entries.proofs.one.parts_in.Goals as goal

pub returns-then-bytes-lt-RECORD : goal.returns-then-bytes-lt-RECORD
returns-then-bytes-lt-RECORD c = parts-missing c.args.bytes.now c.if-bytes-lt-RECORD.true

pub returns-in_default : goal.returns-in_default
returns-in_default c = never_ends 8 c.args.bytes.now 0 _ _ (omega (arith, c.if-bytes-lt-RECORD.false)) c.in_default.is c.read_fixed8.ensures

pub returns-in_default-read_fixed4 : goal.returns-in_default-read_fixed4
returns-in_default-read_fixed4 c = never_ends 4 c.args.bytes.now 8 _ _ (omega (arith, c.if-bytes-lt-RECORD.false)) c.in_default-read_fixed4.is c.read_fixed4.ensures

pub returns-in_default-read_fixed4-2 : goal.returns-in_default-read_fixed4-2
returns-in_default-read_fixed4-2 c = never_ends 4 c.args.bytes.now 12 _ _ (omega (arith, c.if-bytes-lt-RECORD.false)) c.in_default-read_fixed4-2.is c.read_fixed4-2.ensures

pub returns : goal.returns
returns c =
    let b = c.args.bytes.now in
    let h = c.if-bytes-lt-RECORD.false in
    parts_are b _ _ _ (λ i. (c.type_inv.bytes i).fits) h
    (field_is 8 b 0 _ _ (omega (arith, h)) c.in-Ok.is c.read_fixed8.ensures)
    (field_is 4 b 8 _ _ (omega (arith, h)) c.in-Ok-read_fixed4.is c.read_fixed4.ensures)
    (field_is 4 b 12 _ _ (omega (arith, h)) c.in-Ok-read_fixed4-2.is c.read_fixed4-2.ensures)
