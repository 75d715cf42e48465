-- How the answers of preparing and of a check stand in words.
pub mod ReplyWords
