-- what must be believed
pub mod PlainFarm
pub mod Run
