pub mod Answers
pub mod Records
pub mod Unique
pub mod Rounds
