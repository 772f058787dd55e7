-- what must be believed
pub mod RecordText
pub mod Records
pub mod Heads
pub mod Taking
pub mod Laws
