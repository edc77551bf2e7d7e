pub mod Processors
pub mod Caches
pub mod Unique
