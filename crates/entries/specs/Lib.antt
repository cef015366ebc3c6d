pub mod Limits
pub mod Profiles
pub mod Entries
pub mod Runs
pub mod Steps
pub mod Fitting
pub mod Exactly
