pub mod Pieces
pub mod Parts
pub mod Refusals
pub mod Buffers
pub mod Inner
pub mod Computing
pub mod Examples
pub mod ByteRows
