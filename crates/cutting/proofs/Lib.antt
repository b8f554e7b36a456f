pub mod Numbers
pub mod OneSpelling
pub mod Taken
pub mod Cuts
pub mod Strung
pub mod Sections
pub mod Entries
