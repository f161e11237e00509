pub mod Forms
pub mod Looks
pub mod Reports
