-- The mathematics of the lookup on a prepared table: long paths, jump nodes, groups.
pub mod Paths
pub mod OwnPaths
pub mod Jumps
pub mod Groups
pub mod RecordWords
pub mod Microtrees
pub mod Ladders
pub mod Room
pub mod SectionLengths
pub mod PathTops
pub mod LadderWords
pub mod TableWords
pub mod OneJump
pub mod Levels
pub mod Questions
pub mod Theorems
