pub mod Told
pub mod Passes
pub mod Examples
