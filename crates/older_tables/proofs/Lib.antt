-- Why neither program misreads the other's tables.
pub mod Theorems
