-- what must be believed
pub mod Hexadecimal
pub mod HexFaults
pub mod ReadFaults
pub mod Lines
pub mod Writing
-- what only helps contracts
pub mod InputLines
pub mod Names
pub mod Numbers
