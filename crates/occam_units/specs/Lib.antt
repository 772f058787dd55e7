-- what must be believed
pub mod Units
