-- The whole call: from the bytes of book and question and the length of the answer slice to a refusal's number or the bytes written. Assumes nothing.
use Rattle.std.specs.Prelude.{◌≡◌, List, ◌++◌, ℕ, leb, length, drop}
use Rattle.floats.specs.Outcome.{Out, ok, no, bind, need}
use Rattle.blocks.specs.declared.Rule.{Rule}
use Rattle.book.specs.Places.{words}
use Rattle.book.specs.Book.{molar_mass, book_of, rule_of}
use Rattle.thermo_models.specs.Mixture.{mixture_of}
use Rattle.question.specs.Asked.{question_of}
use Rattle.question.specs.declared.Question.{Question}
use Rattle.replies.specs.Blocks.{Answer, answer_bytes, answer_room, refusal_bytes}
use Rattle.sheet.specs.Tasks.{task_of}

-- an answer's bytes
abbrev pub replied : Rule → ℕ → Out Answer → Out (List ℕ)
replied rule task o = bind o (λ a. ok (answer_bytes rule task a))

-- the task's own questions (22 to 30, and 13 to 18 inside a calculation), for a book of n solvents
unfoldable pub answer_to : List ℕ → ℕ → Question → Out (List ℕ)
answer_to book n q = replied (rule_of book) q.task (task_of (mixture_of book n) q)

-- the room for an answer
unfoldable pub roomy : ℕ → Out (List ℕ) → Out (List ℕ)
roomy room o = need (leb answer_room room) 10 o

-- the question's (11 to 21, 36, 34 of a feed), for a book of that version and n solvents
abbrev pub question_to : List ℕ → ℕ → ℕ → List ℕ → Out Question
question_to book version n question = question_of (rule_of book) question version (molar_mass (words book)) n

-- the room (10) and the question's, then the task's own
unfoldable pub sheet_from : List ℕ → ℕ → ℕ → List ℕ → ℕ → Out (List ℕ)
sheet_from book version n question room = roomy room (bind (question_to book version n question) (answer_to book n))

-- a book's questions (1 to 9, 35, 37, 38), then the others
unfoldable pub sheet_of : List ℕ → List ℕ → ℕ → Out (List ℕ)
sheet_of book question room = bind (book_of book) (λ h. sheet_from book h.version h.n question room)

-- the call's result: 0 for an answer, else the refusal's number
unfoldable pub number_of : Out (List ℕ) → ℕ
number_of (ok bs) = 0
number_of (no r) = r

-- the answer slice afterwards: the blocks and what stood behind them; with a refusal, as it was
unfoldable pub written : Out (List ℕ) → List ℕ → List ℕ
written (ok bs) old = bs ++ drop (length bs) old
written (no r) old = old

-- where the whole slice is what a call gives: that, or with a refusal the slice as it was
unfoldable pub slice_of : Out (List ℕ) → List ℕ → List ℕ
slice_of (ok new) old = new
slice_of (no r) old = old

-- what a call does: its result r and the slice
pub record Answers (o : Out (List ℕ)) (r : ℕ) (old new : List ℕ) : Type 0 where
  pub number : r ≡ number_of o
  pub bytes : new ≡ written o old

-- ---- what is sent where a refusal is a block too

-- the answer's blocks, or one block with the refusal's number
unfoldable pub reply_of : Rule → List ℕ → Out (List ℕ) → List ℕ
reply_of rule question (ok bs) = bs
reply_of rule question (no r) = refusal_bytes rule question r

-- to a question, with room for any answer
unfoldable pub reply_to : List ℕ → List ℕ → List ℕ
reply_to book question = reply_of (rule_of book) question (sheet_of book question answer_room)
