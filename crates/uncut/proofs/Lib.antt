pub mod Grown
pub mod Rows
pub mod Free
pub mod Uncut
pub mod Cuts
pub mod All
pub mod Room
pub mod Early
