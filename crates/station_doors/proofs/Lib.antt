pub mod Sessions
pub mod Lent
pub mod Rests
pub mod Planned
pub mod ReadLaws
pub mod DiskPaths
mod Refuted
