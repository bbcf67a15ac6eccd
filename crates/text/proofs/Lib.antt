pub mod Written
pub mod Decimals
pub mod Alike
