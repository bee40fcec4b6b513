pub mod Numbers
pub mod Texts
pub mod Pieces
pub mod Extremes
pub mod LineBytes
pub mod NumberTexts
