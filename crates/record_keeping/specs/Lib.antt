-- what must be believed
pub mod Pieces
pub mod Counts
pub mod Writing
pub mod Keeping
-- what only helps contracts
pub mod Reasons
pub mod KeptPieces
