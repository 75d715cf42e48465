-- The definitions that the contracts of `plain_steps` cite.
pub mod Same
pub mod Strings
