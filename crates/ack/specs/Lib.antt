-- The ACK frame of what was received.
pub mod Ack
pub mod Emits
pub mod Walk
