-- what must be believed
pub mod Following
-- what only helps contracts
pub mod RecordCursor
