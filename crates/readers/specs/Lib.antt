-- What the contracts of readers cite. Assumes nothing.
pub mod Readers
