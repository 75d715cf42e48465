-- Tables of the older limit and what becomes of them, and the step 1 that read them.
pub mod Older
