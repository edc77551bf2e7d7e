pub mod Processor
pub mod Cache
