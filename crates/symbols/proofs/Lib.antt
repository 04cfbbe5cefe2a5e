pub mod Digits
pub mod Seen
pub mod Formed
