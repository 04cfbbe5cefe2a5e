pub mod Decided
pub mod Heads
pub mod Ranges
