pub mod Words
pub mod Templates
pub mod AcceptedExactlyWhen
pub mod RecordRead
pub mod Entries
