-- what must be believed
pub mod Settings
pub mod Requests
pub mod Failures
pub mod Endings
