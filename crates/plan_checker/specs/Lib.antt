-- what must be believed
pub mod Version
pub mod Fields
pub mod Document
pub mod Accepting
