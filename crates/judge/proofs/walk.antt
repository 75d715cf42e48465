-- Laws of the module `walk`.
pub mod Stack
