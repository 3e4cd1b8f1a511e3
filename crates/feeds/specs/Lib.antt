-- Laws of feeds in moles and by mass. Assumes nothing.
pub mod Feeds
