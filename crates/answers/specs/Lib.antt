-- Reading programs, the answers that they give, and the steps of the five questions.
pub mod Reading
pub mod Answers
pub mod Steps
pub mod Promises
