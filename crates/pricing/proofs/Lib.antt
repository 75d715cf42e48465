-- Laws of a price by a sheet, and what a question with a sheet promises from what the rating lookup does.
pub mod SheetPrices
pub mod Theorems
pub mod Promises
pub mod QuoteWords
