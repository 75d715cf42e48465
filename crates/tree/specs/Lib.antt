-- The parent list: climbs, depth, the ordered forest, what turns a list away.
pub mod Parents
pub mod Forest
pub mod Level
pub mod Faults
pub mod Questions
