pub mod Truth
pub mod Agreed
