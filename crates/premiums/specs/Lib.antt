-- What a premium question answers, when each number comes, and what it promises.
pub mod Quotes
pub mod Cases
pub mod Promises
