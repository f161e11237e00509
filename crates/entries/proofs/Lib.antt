pub mod Scans
pub mod Filling
