pub mod Searching
pub mod Announcing
pub mod Outcome
pub mod Exactly
pub mod Against
pub mod Unread
pub mod Only
