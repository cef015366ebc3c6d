pub mod State
pub mod Step
pub mod Whole
pub mod Cutting
