-- What a question with a sheet answers, and what it promises.
pub mod Quotes
pub mod Parts
pub mod Promises
