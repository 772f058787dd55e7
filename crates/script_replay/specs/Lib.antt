-- what must be believed
pub mod Lines
pub mod Recording
