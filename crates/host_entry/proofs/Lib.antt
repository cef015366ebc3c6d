pub mod Only
pub mod Status
