pub mod Lists
pub mod Ordinals
pub mod Records
pub mod Outs
pub mod Scans
pub mod Recipes
pub mod Totals
pub mod Unique
