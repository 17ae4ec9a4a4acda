pub mod Front
pub mod End
pub mod Values
pub mod Rows
