pub mod Injective
pub mod Rows
pub mod Exits
