pub mod Checked
pub mod Chain
pub mod Listing
pub mod Lending
