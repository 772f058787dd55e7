-- what must be believed
pub mod ShorthandVerbs
pub mod QuotedTexts
pub mod ShorthandLines
-- what only helps contracts
pub mod ShorthandFaults
pub mod Reading
