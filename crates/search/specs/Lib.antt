pub mod Tree
pub mod Search
pub mod Models
pub mod Grown
pub mod Maximal
pub mod Demands
