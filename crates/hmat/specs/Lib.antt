pub mod Numbers
pub mod Widths
pub mod Hmat
pub mod Settings
