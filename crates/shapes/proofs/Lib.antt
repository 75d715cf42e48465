-- Laws of the shape table, and of the number of a group's shape.
pub mod Sizes
pub mod Rule
pub mod Heights
pub mod Fields
pub mod Sevens
pub mod Turns
pub mod Depths
pub mod Rank
pub mod RankTurns
