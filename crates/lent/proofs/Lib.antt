pub mod Answers
pub mod Written
pub mod Writers
pub mod Rows
pub mod Examples
pub mod Entries
