pub mod Lengths
pub mod Dues
pub mod Pieces
pub mod Histories
pub mod Changing
pub mod Running
pub mod Starting
pub mod Growing
pub mod Publishing
pub mod Moving
mod Refuted
