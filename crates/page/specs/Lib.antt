pub mod Page
pub mod Pieces
pub mod Settled
