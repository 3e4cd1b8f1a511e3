-- What the contracts of preview cite. Assumes nothing.
pub mod Preview
