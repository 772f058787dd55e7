-- what must be believed
pub mod Spelled
pub mod Usual
pub mod Program
pub mod Reassembled
pub mod Faults
-- what only helps contracts
pub mod Reach
pub mod Layout
