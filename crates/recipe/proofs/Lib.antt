pub mod Types
pub mod Numbers
pub mod Refers
pub mod Steps
pub mod Walks
pub mod Unique
pub mod Bodies
