pub mod Hanging
pub mod Walks
pub mod Finding
