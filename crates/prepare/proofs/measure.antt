-- ABOVE, SIZE, HEIGHT and LONG by position.
pub mod RootPaths
pub mod Subforests
pub mod Turns
