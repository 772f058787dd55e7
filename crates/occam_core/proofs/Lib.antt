pub mod Tracing
pub mod Coming
pub mod Beginnings
pub mod Sides
pub mod InnerMessages
