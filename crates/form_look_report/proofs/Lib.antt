pub mod Formed
pub mod Looked
pub mod Reported
