pub mod Places
pub mod Shape
pub mod Proper
pub mod Vacant
pub mod Ram
pub mod Whole
pub mod Assumed
