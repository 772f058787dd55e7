-- what must be believed
pub mod Subscripts
pub mod Uses
pub mod Laws
-- what only helps contracts
pub mod Sets
