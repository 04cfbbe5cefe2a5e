pub mod Mask
pub mod Marking
