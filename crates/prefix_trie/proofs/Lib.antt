pub mod Alike
pub mod SharedBits
pub mod Nearest
pub mod LastUpTo
pub mod Search
mod Refuted
