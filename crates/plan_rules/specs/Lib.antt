-- what must be believed
pub mod Data
pub mod Fault
pub mod Separate
pub mod Part
pub mod Users
pub mod Laws
