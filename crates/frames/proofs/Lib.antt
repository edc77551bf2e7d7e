pub mod Heads
pub mod Places
pub mod Unique
pub mod Marks
