-- Laws of the functions on lists, and of the exponent.
pub mod Arms
pub mod Lists
pub mod Counts
pub mod Counting
pub mod Places
pub mod Filters
pub mod Singles
pub mod Joins
pub mod Rows
pub mod Views
pub mod Puts
pub mod Measures
pub mod Exponents
pub mod Options
pub mod RefusalNumbers
