pub mod Growing
pub mod Lengths
pub mod Moving
pub mod FrontLaws
pub mod Gathering
pub mod Ports
pub mod Taking
pub mod Concluding
pub mod Closings
pub mod Serving
pub mod Untold
pub mod Resting
pub mod GivenConnections
pub mod Longer
pub mod WholeLives
pub mod Planned
pub mod LaneLives
mod Refuted
