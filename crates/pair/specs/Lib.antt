pub mod Pair
pub mod Counted
