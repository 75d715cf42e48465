-- Laws of the module `fields`.
pub mod Commas
