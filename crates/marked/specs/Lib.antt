-- The marked entries M1 to M12.
pub mod Marked
