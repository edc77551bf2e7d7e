pub mod Laws
pub mod Texts
pub mod Digits
pub mod Unique
