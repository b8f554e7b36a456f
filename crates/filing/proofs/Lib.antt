pub mod SaidOfTheSlots
pub mod CardOctets
pub mod Entries
pub mod RefusalNumbers
pub mod StoredIssues
pub mod FiledExactlyWhen
