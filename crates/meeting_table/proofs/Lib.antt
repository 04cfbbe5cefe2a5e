pub mod Lent
pub mod InTable
