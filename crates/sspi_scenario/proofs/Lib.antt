mod Wanted
mod SourceTexts
mod More
mod Seen
pub mod Walk
pub mod NamedLines
pub mod Wording
pub mod EditWords
pub mod Scripting
pub mod Parting
pub mod Numerals
pub mod Hexes
pub mod LineSteps
pub mod ScenarioLaws
pub mod TextParts
pub mod ValueLaws
pub mod Numbering
