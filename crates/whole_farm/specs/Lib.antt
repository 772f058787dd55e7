-- what must be believed
pub mod Places
pub mod Messages
pub mod Packets
pub mod Whole
pub mod Projection
pub mod Domains
pub mod Laws
pub mod Merges
pub mod Values
pub mod Words
