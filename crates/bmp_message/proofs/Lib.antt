pub mod Peers
pub mod UpdateOf
pub mod Meanings
pub mod PeerHeaders
pub mod Heads
pub mod Reaching
pub mod Causes
pub mod Judging
pub mod Making
pub mod Choosing
pub mod InForms
pub mod KnownStates
pub mod LenientTells
pub mod LenientEntries
pub mod LenientRoutes
mod Refuted
