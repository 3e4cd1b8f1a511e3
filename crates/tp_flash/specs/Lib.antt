-- What the contracts of tp_flash cite. Assumes nothing.
pub mod Split
pub mod Tp
pub mod Counted
