pub mod Calls
pub mod Line
pub mod Laid
pub mod Logged
pub mod Exactly
pub mod Examples
