pub mod NextLine
pub mod Turning
pub mod Pieces
pub mod Reading
pub mod Going
pub mod Living
pub mod Serving
pub mod Later
pub mod GivenSessions
pub mod TurnLaws
pub mod LaneLines
pub mod CopyLaws
mod Refuted
