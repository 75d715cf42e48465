-- Laws of the module `judging`.
pub mod Words
pub mod Orders
pub mod Judgements
