pub mod Bench
pub mod Shortcuts
