pub mod Laws
pub mod Digits
pub mod Signs
pub mod Free
pub mod Entries
pub mod Lists
pub mod Parts
