pub mod Archive
pub mod Recovering
pub mod Appending
pub mod Creating
pub mod Scanning
pub mod Keeping
