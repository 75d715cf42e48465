-- A word for each entry, from a word for each position.
pub mod Writes
