pub mod LastItems
pub mod Copies
pub mod TwoParts
pub mod Joined
pub mod MoreItems
mod Refuted
