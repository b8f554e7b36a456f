pub mod Starred
pub mod Accepted
pub mod Histories
pub mod NumbersForC
pub mod Tables
pub mod ShortOrLong
