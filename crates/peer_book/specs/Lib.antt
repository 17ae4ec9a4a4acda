pub mod Marks
pub mod Peers
pub mod Line
pub mod Standing
