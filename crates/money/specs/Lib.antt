-- The premium of a sum at a rate, what it is by its distance, and the price with its refusals.
pub mod Premium
pub mod Distance
pub mod Prices
