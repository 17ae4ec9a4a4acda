pub mod Torn
pub mod Passing
pub mod PutImages
pub mod Noted
pub mod Filling
pub mod Refusing
mod Refuted
