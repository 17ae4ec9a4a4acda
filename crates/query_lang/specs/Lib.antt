pub mod Queries
pub mod AsnsLaws
pub mod TraitValues
pub mod Asks
pub mod QueryText
pub mod Verbs
pub mod Reading
pub mod CommunityTexts
