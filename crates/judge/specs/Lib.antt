-- The regions of the working space, what judging leaves in them, and what the list alone answers.
pub mod Regions
pub mod Verdict
