-- Sheets with bands: what a text says, the verdict on it, and how the code holds it.
pub mod Texts
pub mod Verdicts
pub mod Promises
pub mod Keys
pub mod Checked
pub mod Listings
pub mod Parts
