pub mod Given
pub mod Read
