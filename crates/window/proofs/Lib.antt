-- What the proofs of several functions use, and in `Laws` what callers use.
pub mod Bits
pub mod Words
pub mod Sixteen
pub mod Zeros
pub mod Clear
pub mod Shift
pub mod Runs
pub mod Laws
pub mod Cleared
