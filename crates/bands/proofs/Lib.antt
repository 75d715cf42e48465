-- Laws of a sheet's bands.
pub mod Tests
pub mod Faults
pub mod SameBands
pub mod Theorems
