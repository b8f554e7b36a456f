pub mod Lent
pub mod Written
pub mod Writers
pub mod Rows
