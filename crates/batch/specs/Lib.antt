-- What the contracts of batch cite. Assumes nothing.
pub mod Feeds
