pub mod PageList
pub mod Lists
pub mod Counts
pub mod Projection
pub mod Answers
pub mod Demand
