pub mod Bounds
pub mod Laid
pub mod Places
pub mod Answers
