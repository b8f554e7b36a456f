pub mod PartsWithin
pub mod RefusalsLeaveAll
pub mod RecordTold
pub mod Answered
pub mod Entries
pub mod Spans
