pub mod State
pub mod Effects
pub mod StreamWalk
pub mod Types
pub mod BodyForms
pub mod Lenient
pub mod PeerMeaning
pub mod Heads
