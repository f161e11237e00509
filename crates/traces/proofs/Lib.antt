pub mod Depth
pub mod Pages
