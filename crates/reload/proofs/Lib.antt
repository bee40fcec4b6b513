pub mod EntryMeanings
pub mod Targets
pub mod Reloads
pub mod Exits
pub mod Theorems
pub mod Extremes
pub mod ReloadAnswers
