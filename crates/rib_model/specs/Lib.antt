pub mod Effects
pub mod Entries
pub mod Steps
pub mod RowTies
