pub mod Steps
pub mod Trail
pub mod Asked
pub mod Told
