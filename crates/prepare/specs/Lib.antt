-- What the passes read and leave, and what stands in the working space and in the table while the table is filled.
pub mod Arrays
pub mod Stages
