pub mod Copies
pub mod Looked
