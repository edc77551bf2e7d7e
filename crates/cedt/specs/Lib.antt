pub mod Numbers
pub mod Cedt
