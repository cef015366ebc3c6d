-- "The replay program": an event record, the receiver's answer to it, and the receiver that the program opens.
use Rattle.std.specs.Prelude.{ℕ, ◌/◌, ◌%◌, Bool, List, Result, Ok, Err, leb, eqb, length, get_or, take, drop, replicate}
use Rattle.wire.specs.Bytes.{pick, be}
use Rattle.wire.specs.Refusals.{number_of}
use Rattle.wire.specs.declared.Refusal.{Refusal}
use Rattle.wire.specs.declared.Refusal.TheVariants.{Ends}
use Rattle.seen.specs.declared.Micros.{Micros}
use Rattle.ecn.specs.declared.Mark.{Mark}
use Rattle.ecn.specs.declared.Mark.TheVariants.{None, Ect0, Ect1, Ce}
use Rattle.ecn.specs.declared.Kind.TheVariants.{Plain}
use Rattle.receiver.specs.declared.Receiver.{Receiver}
use Rattle.receiver.specs.declared.Answer.{Answer}
use Rattle.receiver.specs.declared.Wrote.{Wrote}
use Rattle.receiver.specs.Packet.{packet_call}
use Rattle.receiver.specs.Calls.{opened, timer_call, immediate_call}
use Rattle.receiver.specs.Write.{write_answer}
use Rattle.events.specs.declared.Event.{Event}

-- ---- the record

-- "event records of 24 bytes"
abbrev pub record_length : ℕ
record_length = 24

-- "kind (..), flags (..), six ignored bytes, number, time, each 8 bytes high first"; fewer bytes are a short record
unfoldable pub read_event : List ℕ → Result Event Refusal
read_event s =
    pick (leb record_length (length s))
    (Ok (record { kind = get_or s 0 0; flags = get_or s 1 0; number = be 0 (take 8 (drop 8 s)); time = record { 0 = be 0 (take 8 (drop 16 s)) } }))
    (Err Ends)

-- "flags (1 ack-eliciting, 2 CE; others ignored)"
abbrev pub is_eliciting : Event → Bool
is_eliciting e = eqb (e.flags % 2) 1

-- "In the replay's flags 2 is CE, 4 ECT(0), 8 ECT(1); with several set, the first of these counts" (02, No. 2)
unfoldable pub ecn_mark : Event → Mark
ecn_mark e = pick (eqb (e.flags / 2 % 2) 1) Ce (pick (eqb (e.flags / 4 % 2) 1) Ect0 (pick (eqb (e.flags / 8 % 2) 1) Ect1 None))

-- ---- the answer

-- "It opens with T 1,000, R 3, 25 ms, minimum 1,000"
abbrev pub opening : Receiver
opening = opened 1000 3 (record { 0 = 25 }) (record { 0 = 1000 })

-- "room is 1,200"
abbrev pub room : List ℕ
room = replicate 1200 0

-- what a write answers, without the length of its frame
abbrev pub result_of : Wrote → Answer
result_of w = record { result = w.result; next = w.next }

unfoldable pub write_call : Receiver → Micros → Answer
write_call r time = result_of (write_answer r time Plain room)

-- "kind (1 packet, 2 timer, 3 write, 4 IMMEDIATE_ACK)"; "An unknown kind prints 3"
unfoldable pub event_call : Event → Receiver → Answer
event_call e r =
    pick (eqb e.kind 1) (packet_call r e.number e.time (is_eliciting e) (ecn_mark e))
    (pick (eqb e.kind 2) (timer_call r e.time)
    (pick (eqb e.kind 3) (write_call r e.time)
    (pick (eqb e.kind 4) (immediate_call r) (record { result = 3; next = r }))))

-- "a short last record prints 2"
abbrev pub read_call : Result Event Refusal → Receiver → Answer
read_call (Ok e) r = event_call e r
read_call (Err refusal) r = record { result = number_of refusal; next = r }

-- the answer to the record at the start of the bytes
unfoldable pub record_call : List ℕ → Receiver → Answer
record_call s r = read_call (read_event s) r
