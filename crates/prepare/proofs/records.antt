-- JUMPS.
pub mod Rows
