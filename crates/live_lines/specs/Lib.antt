-- what must be believed
pub mod LiveRanges
pub mod LiveSettings
pub mod LiveVerbs
pub mod LiveLines
