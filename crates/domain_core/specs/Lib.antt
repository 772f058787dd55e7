-- what must be believed
pub mod Hosts
pub mod Devices
pub mod Wiring
pub mod Moves
pub mod Machine
pub mod PrivateFarm
pub mod Journal
pub mod MachineValue
pub mod Domain
pub mod Ticket
pub mod Commands
pub mod Answers
pub mod Marks
pub mod Moments
pub mod Peek
pub mod Laws
-- what only helps contracts
pub mod Entries
pub mod Numbers
pub mod Routes
pub mod PortStates
