-- One tree under another office's numbering, and what it leaves as it is.
pub mod Numbering
pub mod Sheets
pub mod Alike
pub mod Statements
