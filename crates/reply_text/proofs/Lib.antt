pub mod Pieces
pub mod Digits
pub mod Fronts
pub mod Joining
pub mod Texts
pub mod Division
pub mod Further
mod Refuted
