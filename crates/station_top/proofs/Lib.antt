pub mod Lengths
pub mod Causes
pub mod Drawing
pub mod Taking
pub mod Coming
pub mod Below
pub mod CheckCounts
pub mod Replaying
pub mod Statuses
pub mod Concluding
pub mod HandedBack
pub mod Through
pub mod Drilling
pub mod DrillOne
pub mod Relaying
pub mod Judging
pub mod Recalling
pub mod Archiving
pub mod InputKept
mod Refuted
mod OneCall
mod Complete
pub mod Kept
