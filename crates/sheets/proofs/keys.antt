-- Laws of the module `keys`.
pub mod Storing
