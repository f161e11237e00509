pub mod Requests
pub mod History
