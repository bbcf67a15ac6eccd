-- What the proofs of several functions use, in this crate and above it, and that the contracts leave no choice.
pub mod SetLaws
pub mod OrderLaws
pub mod Preparing
pub mod Standing
pub mod Alike
