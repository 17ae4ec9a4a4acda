pub mod Kept
mod Refuted
