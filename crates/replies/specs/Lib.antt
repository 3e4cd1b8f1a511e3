-- The blocks of an answer, of a trial and of a refusal. Assumes nothing.
pub mod Blocks
pub mod Answers
