mod Patch
mod Fill
mod Apart
pub mod Stepping
pub mod Workspace
pub mod Operations
pub mod Values
pub mod Running
pub mod Quiet
pub mod Lone
pub mod Assigning
pub mod Behaving
pub mod Repeating
pub mod MessageBytes
pub mod Speaking
pub mod Hearing
pub mod StoreBytes
pub mod Elements
pub mod ArrayMessages
pub mod Copying
pub mod Sequential
pub mod Behaved
