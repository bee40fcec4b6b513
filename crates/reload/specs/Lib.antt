pub mod EntryMeanings
pub mod Inner
pub mod Targets
pub mod Calls
pub mod Computing
pub mod Examples
pub mod LongTexts
