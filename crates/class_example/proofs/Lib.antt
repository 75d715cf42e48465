-- Why the class is the climb's.
pub mod Classes
