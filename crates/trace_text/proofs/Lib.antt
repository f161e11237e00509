pub mod Lines
pub mod Reading
pub mod Writing
pub mod Accepted
pub mod OfCalls
