-- words and the switch that they say
pub mod Below
pub mod Words
pub mod Switching
-- ports and their numbers
pub mod Numberings
mod Lowering
pub mod PlainRows
