-- Theorems of preparing.
pub mod Acceptance
pub mod Outcomes
