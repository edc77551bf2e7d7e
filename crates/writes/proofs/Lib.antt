pub mod Plains
pub mod Windows
pub mod Matrices
pub mod Unique
