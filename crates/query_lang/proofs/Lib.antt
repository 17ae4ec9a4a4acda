pub mod VerbLaws
pub mod LineWords
pub mod OneNumber
pub mod LastWords
pub mod SelectorLaws
pub mod TraitWordLaws
pub mod ExtendedReading
pub mod HexReading
pub mod AsnsReading
pub mod CommunityReading
pub mod FormLaws
pub mod AskWords
pub mod NoSpace
pub mod TextLaws
mod VerbWords
mod Refuted
