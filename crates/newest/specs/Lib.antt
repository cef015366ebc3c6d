pub mod Search
pub mod Newest
pub mod Exactly
pub mod Against
