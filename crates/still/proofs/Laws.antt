-- The two replies: an answer, whose bytes say their own length, and a refusal's block. Assumes nothing.
use mathlib.Core.Path.{◌≡◌, refl, sym, ◌∙◌}
use mathlib.Core.List.{List, ◌++◌}
use Prim.Native.Nat.{ℕ, ◌≤◌}
use native.Mathlib.Omega.{arith}
use lib.ListN.{length, drop, length-append}
use lib.Seq.{take_at}
use Rattle.floats.specs.Outcome.{Out, ok, no}
use Rattle.outcome.specs.declared.Refusal.{Refusal}
use Rattle.outcome.specs.Refused.{number}
use Rattle.blocks.specs.declared.Rule.{Rule}
use Rattle.blocks.specs.Bytes.{word_at, stored}
use Rattle.blocks.proofs.Laws.{length_block-bytes, stored-front}
use Rattle.book.specs.Book.{rule_of}
use Rattle.replies.specs.Blocks.{answer_room, answer_length, refusal_words, refusal_bytes}
use Rattle.sheet.specs.Sheet.{sheet_of, number_of, written, Answers, reply_of, reply_to}
use Rattle.sheet.proofs.Lengths.{own_length}
use Rattle.still.specs.Sent.{Sent, sheet_number}
use Rattle.refusals.proofs.Laws.{never}
use Rattle.refusals.proofs.Theorem.{refusals}

module _ (book question : List ℕ) {old : List ℕ} (l : length old ≡ answer_room) where
  pub sent_number : {r : ℕ} {new : List ℕ} → Answers (sheet_of book question (length old)) r old new → sheet_number book question ≡ r
  sent_number a = sym (rw l at a.number)

  pub sent_answer : {r : ℕ} {new : List ℕ} → Answers (sheet_of book question (length old)) 0 old new → r ≡ answer_length new → Sent book question r new
  unfolding number_of written reply_of reply_to
  sent_answer {r} {new} a e = go (sheet_of book question answer_room) refl (rw l at a) refl
    where
      go : (o : Out (List ℕ)) → sheet_of book question answer_room ≡ o → Answers o 0 old new → (reply_to book question ≡ reply_of (rule_of book) question o) → Sent book question r new
      go (ok bs) q h u =
          let k : r ≡ length bs = e ∙ rw h.bytes (own_length book question answer_room q (drop (length bs) old)) in
          record { fits = rw (h.bytes, k, length-append) (omega arith); front = rw (h.bytes, k, u) (take_at bs (drop (length bs) old) (length bs) refl) }
      go (no m) q h u = let n : m ≡ 0 = sym h.number in absurd (rw n at ((refusals book question answer_room).number m q))

  pub sent_refusal : (e : Refusal) {rule : Rule} {mid new : List ℕ} → Answers (sheet_of book question (length old)) (number e) old mid → rule ≡ rule_of book
      → new ≡ stored mid 0 (refusal_bytes rule question (number e)) → Sent book question 512 new
  unfolding number_of written reply_of reply_to refusal_bytes
  sent_refusal e {rule} {mid} {new} a u q = go (sheet_of book question answer_room) (rw l at a) refl
    where
      go : (o : Out (List ℕ)) → Answers o (number e) old mid → (reply_to book question ≡ reply_of (rule_of book) question o) → Sent book question 512 new
      go (ok bs) h v = absurd (never e h.number)
      go (no m) h v =
          let w = word_at (refusal_words question m) in
          let f : 512 ≤ length old = omega arith in
          let n : length (refusal_bytes (rule_of book) question m) ≡ 512 = length_block-bytes (rule_of book) w in
          let k : new ≡ refusal_bytes (rule_of book) question m ++ drop 512 old = q ∙ rw (h.bytes, h.number, u) (stored-front (rule_of book) w old f) in
          record { fits = rw (k, length-append, n) (omega arith); front = rw (k, v) (take_at (refusal_bytes (rule_of book) question m) (drop 512 old) 512 n) }
