pub mod Events
pub mod Lines
pub mod Replay
pub mod Exactly
pub mod Pieces
pub mod Settled
