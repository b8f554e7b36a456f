pub mod Runs
pub mod SpareBits
pub mod Filled
pub mod Places
pub mod Carried
pub mod Parts
pub mod SameRow
pub mod Entries
