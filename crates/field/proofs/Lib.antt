pub mod AnswersDetermined
pub mod AcceptedExactlyWhen
pub mod Points
pub mod Later
pub mod Reading
pub mod Entries
pub mod RefusalNumbers
