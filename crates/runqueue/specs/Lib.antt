pub mod Jobs
pub mod Calls
pub mod Demand
pub mod Waits
pub mod Chain
pub mod Examples
