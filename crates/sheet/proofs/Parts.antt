-- Bytes at the front of a part of a slice, parts that are written one after the other, and calls that give the whole slice. Assumes nothing.
use Prim.Native.Nat.{ℕ, ◌+◌, ◌*◌, ◌-◌, ◌≤◌, ◌<◌}
use mathlib.Core.Path.{◌≡◌, ◌∙◌}
use mathlib.Core.List.{List, [], ◌++◌, append-nil}
use native.Mathlib.Omega.{arith}
use lib.ListN.{length, take, drop, length-take, length-drop, drop_of_length-le}
use lib.Seq.{take_all}
use borrow.Rule.Slice.PartMut.{put_mid}
use Rattle.std.specs.Prelude.{Result, Ok, Err}
use Rattle.std.specs.Result.{IsErrAnd}
use Rattle.floats.specs.Fold.{fold_to}
use Rattle.floats.specs.Outcome.{Out, ok, no}
use Rattle.floats.proofs.Folds.{fold_turn}
use Rattle.outcome.specs.declared.Refusal.{Refusal}
use Rattle.outcome.specs.Refused.{number, number_in}
use Rattle.blocks.specs.declared.Rule.{Rule}
use Rattle.blocks.specs.Bytes.{word_at, put, stored, block_bytes}
use Rattle.blocks.proofs.Laws.{part-put, stored-fits, length_block-bytes}
use Rattle.replies.specs.Blocks.{answer_room, refusal_words, refusal_bytes, put_off_words, put_off_bytes}
use Rattle.sheet.specs.Sheet.{number_of, slice_of}

-- the part from an index on, with bytes at its front
part-written : (l bs : List ℕ) (from : ℕ) {x : List ℕ} → x ≡ put (take (length l - from) (drop from l)) 0 bs → put_mid from (length l - from) l x ≡ put l from bs
part-written l bs from {x} e =
    let d : length (drop from l) ≤ length l - from = simp length-drop (omega arith) in
    let q : drop (length l - from) (drop from l) ≡ [] = drop_of_length-le (drop from l) d in
    let z : 0 + length bs ≡ length bs = omega arith in
    let y : x ≡ bs ++ drop (length bs) (take (length l - from) (drop from l)) = e ∙ rw z in
    rw (y, take_all (length l - from) (drop from l) d, q, append-nil) (part-put l bs from)

-- the turn of a loop that writes f 0, f 1 and on, each at the front of its own part
pub parts-turn : (f : ℕ → List ℕ) (k : ℕ) (old out : List ℕ) {x : List ℕ} → x ≡ put (take (length out - answer_room * k) (drop (answer_room * k) out)) 0 (f k)
    → out ≡ fold_to (λ j (l : List ℕ). put l (answer_room * j) (f j)) old k
    → put_mid (answer_room * k) (length out - answer_room * k) out x ≡ fold_to (λ j (l : List ℕ). put l (answer_room * j) (f j)) old (k + 1)
parts-turn f k old out e h = fold_turn (λ j (l : List ℕ). put l (answer_room * j) (f j)) old k (part-written out (f k) (answer_room * k) e) h

-- there is room for an answer in each
pub part_room : (out old : List ℕ) (k count : ℕ) → k < count → answer_room * count ≤ length old → length out ≡ length old
    → answer_room ≤ length (take (length out - answer_room * k) (drop (answer_room * k) out))
part_room out old k count l h e = simp (length-take, length-drop) (omega arith)

-- a block at the front
block-put : (rule : Rule) (w : ℕ → ℕ) (old : List ℕ) → answer_room ≤ length old → stored old 0 (block_bytes rule w) ≡ put old 0 (block_bytes rule w)
block-put rule w old l = stored-fits old (block_bytes rule w) 0 (length_block-bytes rule w) (omega arith)

pub refusal-put : (rule : Rule) (question : List ℕ) (r : ℕ) (old : List ℕ) → answer_room ≤ length old → stored old 0 (refusal_bytes rule question r) ≡ put old 0 (refusal_bytes rule question r)
unfolding refusal_bytes
refusal-put rule question r old l = block-put rule (word_at (refusal_words question r)) old l

pub put-off-put : (rule : Rule) (old : List ℕ) → answer_room ≤ length old → stored old 0 (put_off_bytes rule) ≡ put old 0 (put_off_bytes rule)
unfolding put_off_bytes
put-off-put rule old l = block-put rule (word_at put_off_words) old l

-- ---- a call that gives the whole slice
module _ {o : Out (List ℕ)} {old : List ℕ} where
  pub ends : {k : ℕ} → o ≡ no k → (k ≡ number_of o) × (old ≡ slice_of o old)
  unfolding number_of slice_of
  ends e = (rw e, rw e)

  pub ends_exit : (e : Refusal) (r : Result Unit Refusal) → IsErrAnd r (λ y. y ≡ e) → o ≡ no (number e) → (number_in r ≡ number_of o) × (old ≡ slice_of o old)
  ends_exit e (Err y) h q = rw h (ends q)
  ends_exit e (Ok a) h q = absurd h

pub leaves : (old : List ℕ) {o : Out (List ℕ)} {new : List ℕ} → o ≡ ok new → (0 ≡ number_of o) × (new ≡ slice_of o old)
unfolding number_of slice_of
leaves old e = (rw e, rw e)
