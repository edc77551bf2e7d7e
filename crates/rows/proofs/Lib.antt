pub mod Laws
pub mod Matches
pub mod Unique
