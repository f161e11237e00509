pub mod Finding
pub mod Settled
