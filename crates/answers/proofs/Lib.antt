-- Laws of reading programs, and the bounds of the five questions.
pub mod Locality
pub mod Bounds
pub mod ProgramAnswers
pub mod Numbers
pub mod Runs
pub mod KnownWords
pub mod AnswerWords
pub mod Ratings
