pub mod Known
pub mod Body
