-- Laws of the module `relate`.
pub mod Relations
