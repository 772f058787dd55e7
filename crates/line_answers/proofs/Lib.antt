pub mod Exchange
pub mod Lines
