-- A shift's questions under one allowance: the call that puts up to 64 flash questions in order, each where what is left of an allowance of activity evaluations
-- holds all that it could begin. Numbers before 11 end the call; 11 and all after it are met question by question. Assumes nothing.
use Rattle.std.specs.Prelude.{ℕ, zero, suc, ◌*◌, ◌-◌, ◌/◌, ◌%◌, Bool, cond, ◌&&◌, List, eqb, leb, ◌||◌, length}
use Rattle.floats.specs.Fold.{fold_to, all_to}
use Rattle.floats.specs.Outcome.{Out, ok, no, bind, need}
use Rattle.counted.specs.Counted.{Counted, uncounted, bind_counted}
use Rattle.blocks.specs.declared.Rule.{Rule}
use Rattle.blocks.specs.Words.{block}
use Rattle.blocks.specs.Bytes.{put}
use Rattle.book.specs.Book.{book_of, rule_of}
use Rattle.thermo_models.specs.Mixture.{mixture_of}
use Rattle.tp_flash.specs.Counted.{most_evaluations}
use Rattle.question.specs.Inputs.{within}
use Rattle.question.specs.Asked.{task_in}
use Rattle.question.specs.declared.Question.{Question}
use Rattle.replies.specs.Blocks.{Answer, answer_room, put_off_bytes}
use Rattle.sheet.specs.Tasks.{flash_task}
use Rattle.sheet.specs.Sheet.{question_to, answer_to, reply_of}

-- ---- questions: whole blocks; question k is block k

-- how many
abbrev pub question_count : List ℕ → ℕ
question_count questions = length questions / 512

-- task 7 where number 11 passes: a question that 11 refuses isn't asked for its task
unfoldable pub is_flash : Out ℕ → Bool
is_flash (ok task) = eqb task 7
is_flash (no r) = eqb r 11

-- 1 to 64 whole questions, all of task 7 where 11 passes (39)
unfoldable pub questions_right : Rule → List ℕ → Bool
questions_right rule questions =
    eqb (length questions % 512) 0 && within 1 64 (question_count questions) && all_to (λ k. is_flash (task_in rule (block questions k))) (question_count questions)

-- ---- one question, for a book of that version and n solvents, with so much left
module _ (book : List ℕ) (version n : ℕ) (question : List ℕ) where
  -- its flash, with the evaluations that it begins
  unfoldable pub run_of : Counted Answer
  run_of = bind_counted (uncounted (question_to book version n question)) (flash_task (mixture_of book n))

  -- (m + 2) M + 4 of a question that was read
  unfoldable pub most_of : Out Question → ℕ
  most_of (ok q) = most_evaluations n q.options q.fractions
  most_of (no r) = 0

  -- it is put where it is refused before any evaluation, or where all that it could begin fits into what is left; else it is put off
  unfoldable pub is_put : ℕ → Bool
  is_put left = eqb run_of.begun 0 || leb (most_of (question_to book version n question)) left

  -- what it takes: its real count
  unfoldable pub takes : ℕ → ℕ
  takes left = cond (is_put left) run_of.begun 0

  -- its blocks: those that a call on its own gives, an answer's or a refusal's, or the one of a question that is put off
  unfoldable pub queue_reply : ℕ → List ℕ
  queue_reply left =
      cond (is_put left) (reply_of (rule_of book) question (bind (question_to book version n question) (answer_to book n))) (put_off_bytes (rule_of book))

-- ---- a call
module _ (book : List ℕ) (version n : ℕ) (questions : List ℕ) (allowance : ℕ) where
  -- what is left of the allowance before question k
  unfoldable pub left_at : ℕ → ℕ
  left_at zero = allowance
  left_at (suc k) = left_at k - takes book version n (block questions k) (left_at k)

  -- the answer slice with the blocks of the first k questions, each at the front of its own 4,608 bytes
  unfoldable pub parts_to : List ℕ → ℕ → List ℕ
  parts_to old k = fold_to (λ j (l : List ℕ). put l (answer_room * j) (queue_reply book version n (block questions j) (left_at j))) old k

-- a book's questions (1 to 9, 35, 37, 38), the questions (39), the room for all of them (10): the slice afterwards
unfoldable pub queue_of : List ℕ → List ℕ → ℕ → List ℕ → Out (List ℕ)
queue_of book questions allowance old =
    bind (book_of book) (λ h.
    need (questions_right (rule_of book) questions) 39
    (need (leb (answer_room * question_count questions) (length old)) 10
    (ok (parts_to book h.version h.n questions allowance old (question_count questions)))))
