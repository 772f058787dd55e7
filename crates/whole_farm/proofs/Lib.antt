-- one call in the whole farm, from the switch up
pub mod OneOutputSet
pub mod Messages
pub mod Packets
pub mod Steps
-- runs, and farms made of domains
pub mod Runs
pub mod MadeOfDomains
pub mod Merging
pub mod Wholes
-- plans
pub mod Separation
pub mod Plans
