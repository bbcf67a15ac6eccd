-- What the proofs of several functions use, in this crate and above it, and what is proved of the definitions and the contracts besides.
pub mod Literals
pub mod LiteralBytes
pub mod Numbers
pub mod Table
pub mod ExactlyOne
pub mod Understood
pub mod ClauseLaws
pub mod BranchLaws
pub mod Atoms
pub mod EachOnce
pub mod Answered
pub mod Backwards
pub mod Worked
pub mod WorkedSheets
pub mod Alike
