-- what must be believed
pub mod Domains
pub mod Rule
pub mod SeatStates
pub mod Seats
