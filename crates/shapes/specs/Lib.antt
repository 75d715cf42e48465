-- The shapes of groups, the table of their climbs and how it is packed, and the number of a shape by the depths of a group.
pub mod Walks
pub mod Climbs
pub mod Packed
pub mod Numbered
