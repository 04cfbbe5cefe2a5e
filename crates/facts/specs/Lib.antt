pub mod Cases
pub mod Numbers
pub mod Members
pub mod Keeping
pub mod Turns
pub mod Mapped
pub mod Counting
pub mod Joined
