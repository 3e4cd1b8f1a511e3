-- The ways through a call. Assumes nothing.
use Prim.Native.Nat.{ℕ, ◌+◌, ◌^◌, ◌≤◌, min}
use mathlib.Core.Path.{◌≡◌, sym, ◌∙◌}
use mathlib.Core.Bool.{true}
use mathlib.Core.List.{List}
use native.Mathlib.Nat.{min-eq_left}
use borrow.Author.Tests.{le-leb, eq-eqb}
use lib.ListN.{replicate}
use Rattle.floats.specs.Vector.{places, fill}
use Rattle.floats.specs.Outcome.{ok, bind, need}
use Rattle.blocks.specs.declared.Rule.{Rule}
use Rattle.blocks.specs.Words.{word}
use Rattle.blocks.specs.Bytes.{word_at}
use Rattle.book.specs.declared.Head.{Head}
use Rattle.book.specs.Book.{book_of, rule_of}
use Rattle.book.proofs.Accepted.{accepted}
use Rattle.question.specs.Asked.{task_in}
use Rattle.question.specs.Inputs.{within}
use Rattle.thermo_types.specs.Composition.{normalize_of}
use Rattle.pool.proofs.Laws.{counted, feed_of_lem}
use Rattle.replies.specs.Blocks.{answer_room}
use Rattle.sheet.specs.Sheet.{roomy}
use Rattle.pool.specs.Pool.{total_to, amount, pool_count, drums_right, fed_to, drums_to, pooled_from, pooled_of}

-- past the book, the room, block and task (11, 12)
pub asked : (book question drums : List ℕ) (room : ℕ) {h : Head} {rule : Rule} {t : ℕ} → ok h ≡ book_of book → answer_room ≤ room → rule ≡ rule_of book → ok t ≡ task_in rule question
    → pooled_of book question drums room ≡ drums_to book (places h.n) question drums
unfolding pooled_of pooled_from roomy bind need
asked book question drums room {h} o l u q =
    let m : places h.n ≡ h.n = min-eq_left (accepted book (sym o)).few in
    rw (sym o, le-leb _ _ l, ← u, sym q, m)

-- past the drums' (31, 32, 36) too: the feed of the counts that the code keeps
pub pooled : (book question drums : List ℕ) (room : ℕ) {h : Head} {rule : Rule} {t m k : ℕ} {counts : List ℕ} → ok h ≡ book_of book → answer_room ≤ room → rule ≡ rule_of book → ok t ≡ task_in rule question
    → m ≡ places h.n → true ≡ drums_right drums → m ≤ 8 → counts ≡ fill (λ i. min (pool_count drums i) (2 ^ 53 + 1)) m (replicate 8 0)
    → true ≡ within 1 (2 ^ 53) (total_to (word_at counts) m) → k ≡ word question 27 → k ≡ 0
    → pooled_of book question drums room ≡ bind (normalize_of (λ i. amount (word_at counts i)) m) (fed_to book m question)
unfolding drums_to need
pooled book question drums room {m = m} o l u q p d few e s w z =
    rw (asked book question drums room o l u q, ← p, sym d, sym (s ∙ counted drums m few e), eq-eqb (word question 27) 0 (sym w ∙ z), sym (feed_of_lem drums m few e (sym s)))
