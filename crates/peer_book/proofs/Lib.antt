pub mod MarkLaws
pub mod Marking
pub mod Standings
pub mod UpPeers
mod Refuted
