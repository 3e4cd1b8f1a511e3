-- Many feeds at one temperature: the call that puts one question to each of up to 64 feeds. Numbers before 11 end the call; 11 and all after it are met feed by feed. Assumes nothing.
use Rattle.std.specs.Prelude.{ℕ, ◌+◌, ◌*◌, ◌/◌, ◌%◌, ◌≡◌, Bool, ◌&&◌, List, eqb, leb, Float, length, Option, Some, None, Result}
use Rattle.floats.specs.Fold.{fold_to}
use Rattle.floats.specs.Small.{float}
use Rattle.floats.specs.Vector.{vec}
use Rattle.floats.specs.Outcome.{Out, ok, no, bind, need}
use Rattle.outcome.specs.declared.Refusal.{Refusal}
use Rattle.blocks.specs.Words.{word}
use Rattle.blocks.specs.Bytes.{put}
use Rattle.book.specs.Places.{words}
use Rattle.book.specs.Book.{molar_mass, book_of, rule_of}
use Rattle.question.specs.Inputs.{within, needs_temperature}
use Rattle.question.specs.Asked.{task_in, kind_right, rest_of}
use Rattle.replies.specs.Blocks.{answer_room}
use Rattle.thermo_models.specs.declared.Tabled.{Tabled}
use Rattle.thermo_models.specs.Mixture.{Mixture}
use Rattle.sheet.specs.Ready.{Readied}
use Rattle.sheet.specs.Sheet.{answer_to, reply_of}

-- ---- feeds: 64 bytes each, eight floats that stand in for words 4 to 11 of the question

-- how many
abbrev pub feed_count : List ℕ → ℕ
feed_count feeds = length feeds / 64

-- 1 to 64 whole feeds (33)
unfoldable pub feeds_right : List ℕ → Bool
feeds_right feeds = eqb (length feeds % 64) 0 && within 1 64 (feed_count feeds)

-- the first n fractions of feed k, +0 past them
unfoldable pub feed_at : List ℕ → ℕ → ℕ → List Float
feed_at feeds n k = vec (λ i. float (word feeds) (8 * k + i)) n

-- ---- a call, for a book of that version and n solvents

-- block and task (11, 12: here the tasks at a temperature, 1, 2, 3, 6 and 7) and the feed's kind (36): the task
unfoldable pub task_among : List ℕ → ℕ → List ℕ → Out ℕ
task_among book version question =
    bind (task_in (rule_of book) question) (λ task.
    need (needs_temperature task) 12
    (need (kind_right version (word question)) 36
    (ok task)))

-- the answer to a feed x: those, then 13 to 21 put to it, then the task's own
unfoldable pub feed_to : List ℕ → ℕ → ℕ → List ℕ → List Float → Out (List ℕ)
feed_to book version n question x =
    bind (task_among book version question) (λ task.
    bind (rest_of question (molar_mass (words book)) n x) (answer_to book n))

-- the blocks of feed k: its answer's, or the one of its refusal
unfoldable pub feed_reply : List ℕ → ℕ → ℕ → List ℕ → List ℕ → ℕ → List ℕ
feed_reply book version n question feeds k = reply_of (rule_of book) question (feed_to book version n question (feed_at feeds n k))

-- the answer slice with the blocks of the first k feeds, each at the front of its own 4,608 bytes
unfoldable pub parts_to : List ℕ → ℕ → ℕ → List ℕ → List ℕ → List ℕ → ℕ → List ℕ
parts_to book version n question feeds old k = fold_to (λ j (l : List ℕ). put l (answer_room * j) (feed_reply book version n question feeds j)) old k

-- a book's questions (1 to 9, 35, 37, 38), the number of feeds (33), the room for all of them (10): the slice afterwards
unfoldable pub feeds_of : List ℕ → List ℕ → List ℕ → List ℕ → Out (List ℕ)
feeds_of book question feeds old =
    bind (book_of book) (λ h.
    need (feeds_right feeds) 33
    (need (leb (answer_room * feed_count feeds) (length old)) 10
    (ok (parts_to book h.version h.n question feeds old (feed_count feeds)))))

-- what is kept from feed to feed: a table to fill; once made, it is ready for the question's task, T and p
pub record Keeps (m : Mixture) (question : List ℕ) (kept : Option (Result (Tabled Refusal) Refusal)) (table ps : List Float) : Type 0 where
  pub room : kept ≡ None → length table ≡ 512
  pub made : (r : Result (Tabled Refusal) Refusal) → kept ≡ Some r → Readied m (word question 1) (float (word question) 2) (float (word question) 3) r table ps
