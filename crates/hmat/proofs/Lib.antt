pub mod Widths
pub mod Flags
pub mod Matrices
pub mod Sides
pub mod Shows
pub mod Unique
pub mod Fixed
pub mod Bodies
