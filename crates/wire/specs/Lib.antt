pub mod Bytes
pub mod Fields
pub mod Numbers
pub mod Standing
pub mod Refusals
pub mod Exactly
