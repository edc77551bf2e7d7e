pub mod Srat
