pub mod Joins
pub mod Buffered
pub mod Faults
pub mod Called
mod Refuted
