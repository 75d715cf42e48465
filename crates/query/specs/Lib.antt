-- What the parts of a question hand on.
pub mod StepOne
pub mod Reads
pub mod Parts
