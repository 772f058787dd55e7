-- services of the links
pub mod LinksWithWork
