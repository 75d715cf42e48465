-- Laws of the module `pieces`.
pub mod Prefixes
