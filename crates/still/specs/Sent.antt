-- What the program writes for the bytes that it read. Assumes nothing.
use Rattle.std.specs.Prelude.{◌≡◌, List, ℕ, ◌≤◌, length, take}
use Rattle.book.specs.Place.{place_of}
use Rattle.replies.specs.Blocks.{answer_room}
use Rattle.sheet.specs.Sheet.{sheet_of, number_of, reply_to}
use Rattle.sentences.specs.Sentence.{sentence_of}

-- the first r bytes of `out`, which are written, are the reply
pub record Sent (book question : List ℕ) (r : ℕ) (out : List ℕ) : Type 0 where
  pub fits : r ≤ length out
  pub front : take r out ≡ reply_to book question

-- 0 for an answer, or the refusal's number
abbrev pub sheet_number : List ℕ → List ℕ → ℕ
sheet_number book question = number_of (sheet_of book question answer_room)

-- the first r bytes of `text`, which are written, are the sentence of that number with its place in the book
pub record Reasoned (book : List ℕ) (number r : ℕ) (text : List ℕ) : Type 0 where
  pub fits : r ≤ length text
  pub front : take r text ≡ sentence_of number (place_of book number)
