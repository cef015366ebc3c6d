pub mod Reading
pub mod Laid
pub mod Playing
pub mod Cutting
pub mod Exactly
pub mod Settled
pub mod Only
