-- What the program's contracts cite. Assumes nothing.
pub mod Sent
