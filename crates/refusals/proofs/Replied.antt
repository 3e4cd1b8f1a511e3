-- A reply at the front of a slice, from what a call left there: an answer's bytes, or the block of its refusal. Assumes nothing.
use Prim.Native.Nat.{ℕ, ◌+◌, ◌≤◌}
use mathlib.Core.Path.{◌≡◌, refl, sym, ◌∙◌}
use mathlib.Core.List.{List}
use native.Mathlib.Omega.{arith}
use lib.ListN.{length}
use Rattle.floats.specs.Outcome.{Out, ok, no}
use Rattle.outcome.specs.declared.Refusal.{Refusal}
use Rattle.outcome.specs.Refused.{number}
use Rattle.blocks.specs.declared.Rule.{Rule}
use Rattle.blocks.specs.Bytes.{put, stored}
use Rattle.book.specs.declared.Model.{Model}
use Rattle.replies.specs.Blocks.{answer_room, refusal_bytes}
use Rattle.sheet.specs.Sheet.{Answers, number_of, written, reply_of}
use Rattle.sheet.proofs.Parts.{refusal-put}
use Rattle.refusals.specs.Numbered.{Numbered}
use Rattle.refusals.proofs.Laws.{never}

front : (old bs : List ℕ) {new : List ℕ} → new ≡ written (ok bs) old → new ≡ put old 0 bs
unfolding written
front old bs e = let z : 0 + length bs ≡ length bs = omega arith in e ∙ rw z

module _ (rule : Rule) (question : List ℕ) {old mid : List ℕ} where
  pub answered : {M : Model} (o : Out (List ℕ)) → Numbered M o → Answers o 0 old mid → mid ≡ put old 0 (reply_of rule question o)
  unfolding reply_of number_of
  answered (ok bs) h a = front old bs a.bytes
  answered (no k) h a = absurd (rw (sym a.number) at (h.number k refl))

  pub refuses : (o : Out (List ℕ)) (e : Refusal) {new : List ℕ} → Answers o (number e) old mid → answer_room ≤ length old → new ≡ stored mid 0 (refusal_bytes rule question (number e))
      → new ≡ put old 0 (reply_of rule question o)
  unfolding reply_of number_of written
  refuses (ok bs) e a l h = absurd (never e a.number)
  refuses (no k) e a l h = h ∙ rw (a.bytes, a.number) (refusal-put rule question k old l)
