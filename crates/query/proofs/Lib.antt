-- How the code of a question follows its reading program.
pub mod Promises
pub mod StepOne
pub mod Ratings
pub mod Programs
