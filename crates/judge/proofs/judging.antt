-- Laws of the module `judging`.
pub mod Judgments
