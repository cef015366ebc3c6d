pub mod Laid
pub mod Printing
pub mod Cutting
pub mod Only
pub mod Settled
pub mod Fitting
