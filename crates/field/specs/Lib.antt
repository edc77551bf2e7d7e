pub mod Whole
pub mod Place
