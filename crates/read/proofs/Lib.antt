pub mod Refs
pub mod Walks
pub mod Listing
pub mod Fields
pub mod Unique
pub mod Once
