pub mod Listing
pub mod Demands
pub mod Empty
pub mod CallContracts
pub mod Library
pub mod Possible
