-- what must be believed
pub mod Tokens
pub mod Rules
pub mod Passes
