pub mod Years
pub mod Laws
pub mod Entries
