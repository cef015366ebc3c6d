pub mod Sequence
pub mod Told
pub mod Kept
pub mod Answers
pub mod Examples
