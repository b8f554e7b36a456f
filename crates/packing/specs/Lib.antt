pub mod Section5
pub mod Section7
pub mod Unpacking
pub mod Accepted
pub mod Examples
pub mod Refused
pub mod Means
