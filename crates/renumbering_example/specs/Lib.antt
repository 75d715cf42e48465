-- What two offices are told of one barn.
pub mod Offices
pub mod Promises
