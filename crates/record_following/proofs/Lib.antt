pub mod EntryCalls
pub mod Followed
pub mod Led
