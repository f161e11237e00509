pub mod Requesting
pub mod NeverWrong
