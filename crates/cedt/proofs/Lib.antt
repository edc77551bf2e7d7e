pub mod Fixed
pub mod Windows
pub mod Maths
pub mod Shows
pub mod Unique
