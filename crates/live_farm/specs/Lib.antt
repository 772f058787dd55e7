-- what must be believed
pub mod Names
pub mod Asking
pub mod LiveTexts
pub mod WholeLines
pub mod Whys
pub mod Groups
pub mod Fates
pub mod Closings
-- what only helps contracts
pub mod FarmUsers
pub mod LineCounts
pub mod LineRooms
pub mod Served
pub mod Sending
pub mod Kept
pub mod Mailboxes
pub mod LiveStatuses
