pub mod Decimal
pub mod Lengths
pub mod Digits
pub mod Examples
pub mod Entries
