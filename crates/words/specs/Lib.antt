pub mod Tests
pub mod Positions
