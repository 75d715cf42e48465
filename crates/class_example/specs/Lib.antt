-- What the class of an entry is.
pub mod Class
