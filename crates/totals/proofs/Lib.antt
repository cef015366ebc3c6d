pub mod Listed
pub mod Counting
pub mod Bringing
pub mod Growing
pub mod Stepping
pub mod Summing
pub mod Numbers
pub mod Only
