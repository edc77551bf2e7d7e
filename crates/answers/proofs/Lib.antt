pub mod Laws
pub mod Examples
pub mod Kept
pub mod Unique
