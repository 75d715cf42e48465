-- How the passes over the preorder fill their sections, how the sections make the table, and what preparing answers.
pub mod Preorder
pub mod Roots
pub mod Calls
pub mod Promises
