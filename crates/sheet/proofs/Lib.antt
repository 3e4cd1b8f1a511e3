-- Laws of the whole call, which other crates may cite. Assumes nothing.
pub mod Laws
pub mod Flashes
pub mod Shared
pub mod Replies
pub mod Dispatch
pub mod Lengths
pub mod Unread
pub mod Parts
