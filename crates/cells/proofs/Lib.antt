pub mod Trails
pub mod Stores
pub mod Composed
pub mod Single
pub mod Bounds
pub mod Ways
