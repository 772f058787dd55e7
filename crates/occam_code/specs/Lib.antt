-- what must be believed
pub mod Instructions
pub mod Words
pub mod Expressions
pub mod Guards
pub mod Components
pub mod Code
pub mod Layout
pub mod Machine
pub mod Evaluates
pub mod Alone
pub mod Behaves
-- what only helps contracts
pub mod Filled
