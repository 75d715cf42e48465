-- GROUPS.
pub mod Turns
