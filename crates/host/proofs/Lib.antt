pub mod Stale
pub mod Only
