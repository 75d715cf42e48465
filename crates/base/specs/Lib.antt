-- What every definition of the tariff rests on.
pub mod Lists
pub mod Numbers
pub mod Limits
pub mod Amounts
pub mod Powers
pub mod Options
pub mod Refusals
