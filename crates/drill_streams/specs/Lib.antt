pub mod DrillStream
pub mod Drawn
pub mod Messages
pub mod Peers
