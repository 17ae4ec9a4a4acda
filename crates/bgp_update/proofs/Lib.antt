pub mod Fields
pub mod Reading
pub mod Multiprotocol
pub mod OneBody
pub mod Counting
pub mod Judging
pub mod Framing
pub mod Withdrawing
pub mod Own
mod Refuted
