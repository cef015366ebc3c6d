pub mod Told
pub mod Steps
pub mod After
pub mod Passes
pub mod Examples
