-- What the contracts of `records` cite. Assumes nothing.
pub mod Records
pub mod Parameters
pub mod Offered
pub mod Sources
