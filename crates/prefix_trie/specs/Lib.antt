pub mod Table
pub mod Cursor
pub mod Sharing
pub mod Longest
pub mod Agreement
pub mod Looking
