-- Laws of the module `joining`.
pub mod Joins
pub mod Recounts
