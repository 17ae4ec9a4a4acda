pub mod Handing
pub mod Returning
pub mod Taking
pub mod Runs
pub mod Ends
pub mod Decided
mod Drilled
pub mod Counting
pub mod Counted
pub mod SeenLanes
pub mod CopiesKept
mod Refuted
