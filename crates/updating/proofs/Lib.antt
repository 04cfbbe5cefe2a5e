pub mod Longer
pub mod Below
pub mod Kept
pub mod Place
