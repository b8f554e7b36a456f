pub mod Section1
pub mod Accepted
pub mod Examples
pub mod Refused
pub mod Means
