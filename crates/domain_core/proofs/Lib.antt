-- histories and journals
pub mod Histories
pub mod Meant
pub mod AnswersInHistory
pub mod Commits
pub mod Runs
pub mod Kept
pub mod Reserved
pub mod CopiedEntries
-- tickets
pub mod Tickets
pub mod Periods
-- devices, packets and switch words
pub mod Joined
pub mod Tables
pub mod Wired
pub mod Outcomes
pub mod Sizes
pub mod Acts
pub mod Lists
pub mod Unchanged
-- a peek of a word, from its bytes up to the whole of it
pub mod PeekBytes
pub mod PeekBounds
pub mod PeekPlaces
pub mod PeekNodes
pub mod PeekCalls
pub mod PeekRounds
pub mod PeekBeginning
pub mod PeekWhole
