-- The prepared table of a parent list, and what preparing answers and leaves.
pub mod Ladders
pub mod Groups
pub mod Table
pub mod Preparing
