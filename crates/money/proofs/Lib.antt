-- Signed numbers as sign and size, rounding on sizes, and what the premium is over the whole numbers.
pub mod Halves
pub mod Differences
pub mod Theorems
pub mod Prices
