pub mod Playing
pub mod Writing
