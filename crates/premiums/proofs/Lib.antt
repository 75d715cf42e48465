-- The laws of a premium question's price, and what it promises from what the rating lookup does.
pub mod Pricing
pub mod Theorems
pub mod Promises
pub mod QuoteWords
