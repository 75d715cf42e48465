-- KIND.
pub mod Turns
