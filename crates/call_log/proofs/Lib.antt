pub mod Laws
pub mod Behind
pub mod Answers
pub mod Room
pub mod Examples
pub mod Only
pub mod Exactly
