pub mod PageList
pub mod Curve
