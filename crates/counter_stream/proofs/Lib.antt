-- Laws of a state's fitness, of a line's end, and of a byte more.
pub mod LineFeeds
pub mod Fitness
pub mod Bytes
pub mod Theorems
pub mod Lengths
