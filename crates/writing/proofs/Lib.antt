pub mod Formed
pub mod Passed
