-- What the proofs of several functions use, in this crate and above it, and that the contracts leave no choice.
pub mod Bools
pub mod Lists
pub mod Members
pub mod Bits
pub mod Containment
pub mod Steady
pub mod Alike
