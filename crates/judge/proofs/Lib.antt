-- Laws of the working space.
pub mod Searches
pub mod Verdicts
