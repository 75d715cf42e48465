-- What two entries share; what the two questions about it promise, and what their parts hand on.
pub mod Common
pub mod Admission
pub mod Promises
pub mod Parts
