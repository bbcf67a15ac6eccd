pub mod Texts
pub mod Worked
pub mod Meaning
pub mod Alike
