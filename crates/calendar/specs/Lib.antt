pub mod Gregorian
pub mod Walk
pub mod Refusals
pub mod Dates
pub mod Order
pub mod Computing
pub mod Examples
pub mod CounterExamples
