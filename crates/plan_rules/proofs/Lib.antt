-- lists and numbers
pub mod ListLemmas
pub mod RuleLemmas
pub mod NumberLemmas
pub mod AloneLemmas
pub mod PartLemmas
-- users
pub mod NameLemmas
pub mod UserLemmas
-- ports and parts
pub mod PortLemmas
pub mod SeparateLemmas
