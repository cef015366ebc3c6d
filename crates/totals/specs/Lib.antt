pub mod Totals
pub mod Adding
pub mod Files
pub mod Sums
