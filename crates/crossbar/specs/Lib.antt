-- what must be believed
pub mod Word
pub mod Switch
pub mod Ranges
pub mod Row
-- what only helps contracts
pub mod Changed
pub mod Fits
pub mod Kept
pub mod Laws
pub mod Numbers
pub mod Plain
