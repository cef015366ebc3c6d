pub mod Filling
pub mod Scanning
pub mod Hex
pub mod Only
