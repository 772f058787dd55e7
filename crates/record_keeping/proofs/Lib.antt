pub mod Counting
pub mod Pieces
pub mod Keeping
pub mod Holding
