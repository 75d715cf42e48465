-- Laws of the module `lost`.
pub mod Marks
