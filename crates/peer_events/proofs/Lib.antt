pub mod Reading
pub mod PeerUpReading
mod Refuted
