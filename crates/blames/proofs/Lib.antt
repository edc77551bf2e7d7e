pub mod Names
pub mod Widths
pub mod Records
pub mod Heads
pub mod Unique
pub mod Examples
