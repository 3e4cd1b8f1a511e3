-- What the contracts of pool cite. Assumes nothing.
pub mod Pool
