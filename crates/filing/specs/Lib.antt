pub mod Filing
pub mod Refused
pub mod Accepted
