-- LADPOS and LADDERS.
pub mod Rungs
pub mod Tops
pub mod Turns
