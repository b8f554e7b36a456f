pub mod Strict
pub mod Lex
pub mod Cards
pub mod Derived
pub mod Made
pub mod Entries
