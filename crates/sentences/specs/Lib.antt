-- What the contracts of sentences cite, and its laws. Assumes nothing.
pub mod Sentence
pub mod Laws
