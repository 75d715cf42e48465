-- Laws of the module `whole_lines`.
pub mod Lists
pub mod LineEnds
