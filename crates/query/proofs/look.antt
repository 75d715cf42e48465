-- Laws of the module `look`.
pub mod Counts
pub mod Lookups
