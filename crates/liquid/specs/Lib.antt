-- What the contracts of liquid cite. Assumes nothing.
pub mod Vapor
