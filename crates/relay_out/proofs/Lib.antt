pub mod Members
pub mod ItemRead
pub mod PeersLeft
pub mod RelayLaw
pub mod Handing
pub mod Steps
pub mod Judged
pub mod Writes
pub mod TablesTold
pub mod Emitting
pub mod OneForm
pub mod OneMessage
pub mod OneStream
mod Refuted
