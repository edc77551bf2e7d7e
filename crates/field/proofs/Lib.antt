pub mod Laid
pub mod Orders
pub mod Parts
pub mod Places
pub mod Unique
