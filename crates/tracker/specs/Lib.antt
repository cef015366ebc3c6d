pub mod Known
pub mod Record
pub mod Calls
pub mod Status
pub mod Average
pub mod Counting
pub mod Report
pub mod Exactly
