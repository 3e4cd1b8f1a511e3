-- Laws of exports. Assumes nothing.
mod Ways
mod States
mod Fronts
