-- The jump entries, and the record of each.
pub mod Ancestors
pub mod Nodes
