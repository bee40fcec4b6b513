pub mod Theorems
pub mod Ahead
pub mod Sizes
pub mod Filling
pub mod Buffers
pub mod Composition
pub mod Extremes
pub mod UsedLaws
