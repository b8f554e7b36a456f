pub mod Grammar
pub mod Walk
pub mod Messages
pub mod Places
pub mod Covering
pub mod FirstPlace
pub mod Refused
