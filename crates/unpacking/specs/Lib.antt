pub mod Packed
pub mod Filled
pub mod SameRow
pub mod Standing
pub mod Groups
