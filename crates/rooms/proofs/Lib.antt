pub mod Rooming
pub mod Backs
pub mod Spaces
