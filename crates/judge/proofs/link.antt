-- Laws of the module `link`.
pub mod Chains
