pub mod Text
pub mod Printed
pub mod Room
pub mod Decimal
