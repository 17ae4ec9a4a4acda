pub mod StepCopies
pub mod Beginnings
pub mod BookSteps
pub mod CountSteps
pub mod LastSteps
pub mod SessionSteps
pub mod StepSteps
pub mod RouteSteps
pub mod PendingSteps
pub mod PendingDrops
pub mod ChangesMade
pub mod RowEffects
pub mod SessionRows
pub mod EntrySteps
pub mod GatheredSteps
pub mod LastToTell
pub mod Builders
mod Refuted
