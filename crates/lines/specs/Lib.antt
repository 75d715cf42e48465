-- The lines of the counter program: what they say, and what is printed.
pub mod Text
pub mod Fields
pub mod Bands
pub mod Results
pub mod Texts
pub mod Counter
pub mod Stages
