pub mod Write
pub mod Held
pub mod Answers
