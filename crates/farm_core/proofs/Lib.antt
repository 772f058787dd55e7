-- lists, and the domains that are in them
pub mod Lists
-- the contracts of a farm without threads, and of a run
pub mod Opened
pub mod Plain
pub mod Owners
pub mod Wholes
pub mod AnswersOfRuns
