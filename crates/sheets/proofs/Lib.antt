-- Laws of sheets: what a text says, what the check comes to, and the promise of an accepted sheet.
pub mod Readings
pub mod Checks
pub mod Theorems
