pub mod Tests
pub mod Turns
pub mod Unique
