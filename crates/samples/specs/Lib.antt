-- The definitions that the contracts of `samples` cite.
pub mod Amounts
pub mod Cases
pub mod Climbing
pub mod Fields
pub mod Refusals
pub mod Words
