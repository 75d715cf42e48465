-- Laws and theorems of the parent list.
pub mod Climbs
pub mod Preorders
pub mod OneTree
pub mod Depths
pub mod Forests
pub mod Levels
pub mod Positions
pub mod Intervals
pub mod Siblings
pub mod Ancestry
pub mod Meanings
pub mod Branches
pub mod Theorems
