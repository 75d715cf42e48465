-- Laws of the module `listing`.
pub mod Tests
pub mod Turns
