pub mod Lines
pub mod Truth
