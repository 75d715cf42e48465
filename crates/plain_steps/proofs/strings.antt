-- Laws of the module `strings`.
pub mod ClosedStrings
pub mod StringLists
