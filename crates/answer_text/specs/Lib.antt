-- what must be believed
pub mod Digits
pub mod Replies
pub mod Results
