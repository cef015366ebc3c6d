pub mod Listing
pub mod Bits
pub mod Ring
pub mod Rings
pub mod Ranges
