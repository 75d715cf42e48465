-- Laws of the module `finding`.
pub mod Halving
pub mod Ranges
pub mod Parts
