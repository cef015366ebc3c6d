pub mod Decimal
pub mod Only
pub mod Digits
