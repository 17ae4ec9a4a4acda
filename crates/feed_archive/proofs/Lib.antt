pub mod Records
pub mod Windows
pub mod OneContent
pub mod Appended
pub mod Reading
pub mod Empty
pub mod Begun
pub mod Created
pub mod Steps
pub mod Ending
pub mod Kept
pub mod Telling
pub mod Asked
pub mod AsideReads
pub mod Holding
mod Refuted
