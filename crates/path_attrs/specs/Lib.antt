pub mod Field
pub mod Kept
pub mod AsInfo
pub mod Valued
pub mod Judged
pub mod Framed
