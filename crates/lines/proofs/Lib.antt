-- Laws of the lines.
pub mod Digits
pub mod Decimals
pub mod Parts
pub mod Searches
pub mod LineFields
pub mod Cuts
pub mod Questions
pub mod FieldReads
pub mod BandLines
pub mod WholeLines
pub mod LineTexts
pub mod Runs
pub mod LongLines
pub mod Fillings
