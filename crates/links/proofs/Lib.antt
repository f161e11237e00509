pub mod Leaving
pub mod Linking
pub mod Walks
pub mod Copying
