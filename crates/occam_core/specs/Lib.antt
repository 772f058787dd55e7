-- what must be believed
pub mod Values
pub mod Processes
pub mod Traces
pub mod Laws
pub mod Bounds
