pub mod Pairs
pub mod Rewritten
pub mod Going
