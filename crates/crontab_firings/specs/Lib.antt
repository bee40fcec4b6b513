pub mod Numbers
pub mod Lines
pub mod Pieces
pub mod Files
pub mod CounterExamples
pub mod WholeLines
