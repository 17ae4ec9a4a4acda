pub mod Walking
pub mod Ties
pub mod Peers
pub mod Lists
pub mod Scans
pub mod Gathering
mod Refuted
