pub mod Joining
pub mod Commands
pub mod AllowedText
pub mod Settings
pub mod OptionWalk
pub mod OptionMatches
pub mod OptionTaken
pub mod OptionServe
pub mod ThreeNumbers
pub mod Readings
pub mod ServeKept
pub mod EmptyLine
pub mod ComplaintLaws
pub mod ComplaintSteps
pub mod SoundWords
mod Refuted
