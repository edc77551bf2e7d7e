pub mod Words
pub mod Holders
pub mod Examples
