pub mod Others
pub mod Asked
