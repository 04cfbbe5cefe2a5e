pub mod Desk
pub mod Cases
pub mod Numbers
pub mod Kept
pub mod Running
