pub mod Records
pub mod Accepted
pub mod Refused
pub mod Letters
