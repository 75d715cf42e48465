-- Why two offices are told the same premium.
pub mod Refusals
pub mod Offices
