pub mod Lists
pub mod Calls
pub mod Keys
pub mod Rising
pub mod Computing
pub mod Examples
pub mod CounterExamples
