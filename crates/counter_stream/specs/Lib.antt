-- The counter program on a stream of bytes, with lent buffers.
pub mod Fitness
pub mod Loans
pub mod Lines
pub mod Pieces
