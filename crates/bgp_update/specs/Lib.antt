pub mod Found
pub mod Framed
pub mod Own
