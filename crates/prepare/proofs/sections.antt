-- The sections of the table.
pub mod Whole
