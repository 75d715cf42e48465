-- A sheet's bands: what they hold, their lowest fault, and what it is to be accepted.
pub mod Bands
pub mod Accepted
