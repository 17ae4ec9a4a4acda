pub mod Standings
pub mod Setting
pub mod CountLaws
pub mod Families
pub mod CountedNames
pub mod OtherSteps
pub mod PartSums
pub mod PassedSteps
mod Refuted
