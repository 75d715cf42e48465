-- Laws of the module `sweeping`.
pub mod Fills
pub mod Classes
pub mod Searches
