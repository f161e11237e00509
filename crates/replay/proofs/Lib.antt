pub mod Replaying
pub mod InTurn
