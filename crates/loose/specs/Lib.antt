pub mod Loose
pub mod Met
