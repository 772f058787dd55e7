-- the rule of the table, and the rows of its seats
pub mod Moves
pub mod Ports
pub mod SeatRows
pub mod Openings
