pub mod Entries
pub mod Parts
pub mod Messages
pub mod Shelves
