-- Why another numbering changes no class and no premium.
pub mod Numbers
pub mod Climbs
pub mod Acceptance
pub mod Meanings
pub mod Bands
pub mod Sheets
pub mod Texts
pub mod Prices
pub mod Theorems
