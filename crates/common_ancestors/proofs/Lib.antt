-- Laws and theorems of what two entries share; what the search goes by.
pub mod Climbs
pub mod Theorems
pub mod Trials
pub mod Halving
pub mod Narrowing
pub mod Standing
pub mod Ends
pub mod Replies
