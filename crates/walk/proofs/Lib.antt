-- What the proofs of several functions use, and that contracts leave no choice.
pub mod Sets
pub mod Parts
pub mod Listed
pub mod Exits
pub mod Judging
pub mod Alike
