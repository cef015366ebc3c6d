pub mod Record
pub mod Calls
pub mod Heard
pub mod Exactly
