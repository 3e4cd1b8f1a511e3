-- Demand 3 of each feed: its part is the answer slice after a call on it alone. Assumes nothing.
use Prim.Native.Nat.{ℕ}
use mathlib.Core.Path.{◌≡◌, refl, sym, ◌∙◌}
use mathlib.Core.List.{List}
use native.Mathlib.Nat.{zero-add}
use native.Mathlib.Omega.{arith}
use lib.ListN.{length, length-take, length-drop}
use Rattle.floats.specs.Outcome.{Out, ok, no}
use Rattle.blocks.specs.Bytes.{put}
use Rattle.book.specs.Book.{rule_of}
use Rattle.replies.specs.Blocks.{answer_room}
use Rattle.sheet.specs.Sheet.{sheet_of, written, reply_of, reply_to}
use Rattle.striking.specs.Theorem.{Accepted, after}
use Rattle.striking.proofs.Theorem.{striking}
use Rattle.batch.specs.Feeds.{feeds_of}
use Rattle.batches.specs.Alone.{task_for, part}
use Rattle.batches.specs.Striking.{AsksAlone, FeedDemand3}
use Rattle.batches.proofs.Alone.{taken, feeds_alone}

pub accepted-is : {A : Type 0} (o : Out A) → Accepted o → (a : A) × (o ≡ ok a)
unfolding Accepted
accepted-is (ok a) h = (a, refl)
accepted-is (no r) h = absurd h

-- an accepted call writes its reply
pub after-reply : (book r old : List ℕ) → length old ≡ answer_room → Accepted (sheet_of book r answer_room) → after book r old ≡ put old 0 (reply_to book r)
unfolding reply_to reply_of written
after-reply book r old long took = let o = accepted-is (sheet_of book r answer_room) took in rw (long, o.1, zero-add)

module _ (book question feeds old new : List ℕ) (k : ℕ) (r : List ℕ) (call : feeds_of book question feeds old ≡ ok new)
    (a : AsksAlone book question feeds k r) where
  part-long : length (part old k) ≡ answer_room
  part-long = simp (length-take, length-drop) (omega (arith, (taken book question feeds old new call).room, a.below))

  part-after : Accepted (sheet_of book r answer_room) → after book r (part old k) ≡ part new k
  part-after took =
      let t = accepted-is (task_for (rule_of book) question) a.task in
      after-reply book r (part old k) part-long took ∙ sym ((feeds_alone book question feeds old new call).alone t.0 t.1 k a.below r a.asked)

pub feed_demand3 : FeedDemand3
feed_demand3 book question feeds old new book' question' feeds' old' new' r r' k k' call a call' a' h took =
    let long = part-long book question feeds old new k r call a in
    let long' = part-long book' question' feeds' old' new' k' r' call' a' in
    let s = striking book r book' r' h (part old k) (part old' k') (omega (arith, long')) (rw long took) in
    let took' = rw long' at s.0 in
    (took', rw (part-after book question feeds old new k r call a took, part-after book' question' feeds' old' new' k' r' call' a' took') at s.1)
