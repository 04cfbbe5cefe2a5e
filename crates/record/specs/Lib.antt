pub mod Passed
pub mod Told
pub mod Words
