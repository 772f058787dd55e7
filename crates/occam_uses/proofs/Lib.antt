pub mod Sets
pub mod Clashes
pub mod Values
