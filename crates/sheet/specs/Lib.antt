pub mod Literals
pub mod Layout
pub mod Reading
pub mod Enums
pub mod Order
pub mod Passed
