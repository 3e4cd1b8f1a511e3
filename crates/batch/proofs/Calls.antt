-- The ways through a call on many feeds, each by the function that takes it. Assumes nothing.
use Prim.Native.Nat.{ℕ, ◌+◌, ◌*◌, ◌-◌, ◌%◌, ◌≤◌, ◌<◌}
use mathlib.Core.Path.{◌≡◌, sym}
use mathlib.Core.Bool.{Bool, true, false, ◌&&◌, true≢false}
use mathlib.Core.List.{List}
use native.Mathlib.Nat.{min-eq_left}
use native.Mathlib.Omega.{arith}
use borrow.Author.Tests.{le-leb, lt-leb, leb-true}
use borrow.Rule.Slice.PartMut.{put_mid}
use lib.Dec.{eqb, leb}
use lib.ListN.{length, take, drop}
use lib.Ieee.{Float}
use lib.Ieee.Bits.{is_true}
use Rattle.std.specs.Prelude.{Some, None, Result, Ok, Err}
use Rattle.floats.specs.Small.{float}
use Rattle.floats.specs.Vector.{places, vec}
use Rattle.floats.specs.Outcome.{Out, ok, no, bind, need}
use Rattle.floats.proofs.Outcomes.{need_inv, bind_inv}
use Rattle.outcome.specs.declared.Refusal.{Refusal}
use Rattle.outcome.specs.Refused.{number, number_in}
use Rattle.blocks.specs.declared.Rule.{Rule}
use Rattle.blocks.specs.Words.{word}
use Rattle.blocks.specs.Bytes.{put, stored}
use Rattle.book.specs.declared.Head.{Head}
use Rattle.book.specs.Places.{words}
use Rattle.book.specs.Book.{molar_mass, model_of, book_of, rule_of}
use Rattle.book.proofs.Accepted.{accepted}
use Rattle.thermo_models.specs.declared.Tabled.{Tabled}
use Rattle.thermo_models.specs.Mixture.{Mixture}
use Rattle.question.specs.declared.Question.{Question}
use Rattle.question.specs.Inputs.{needs_temperature}
use Rattle.question.specs.Asked.{task_in, rest_of}
use Rattle.question.proofs.Asks.{Reads, reads, task-read}
use Rattle.replies.specs.Blocks.{answer_room, refusal_bytes}
use Rattle.sheet.specs.Ready.{Readied}
use Rattle.sheet.specs.Sheet.{answer_to, Answers, reply_of}
use Rattle.sheet.proofs.Parts.{parts-turn}
use Rattle.refusals.specs.Numbered.{Numbered}
use Rattle.refusals.proofs.Laws.{numbers}
use Rattle.refusals.proofs.Replied.{answered, refuses}
use Rattle.refusals.proofs.Theorem.{num_task_in, num_rest, num_answer}
use Rattle.batch.specs.Feeds.{feed_count, feeds_right, feed_at, task_among, feed_to, feed_reply, parts_to, feeds_of, Keeps}

-- whether there is a task: what comes after it doesn't read it
abbrev passed : Out ℕ → Out (Unit {0})
passed o = bind o (λ task. ok tt)

whatever_task : {B : Type 0} (o : Out ℕ) {r : Out (Unit {0})} (p : Out B) → r ≡ passed o → bind o (λ task. p) ≡ bind r (λ u. p)
unfolding bind
whatever_task (ok k) p e = rw e
whatever_task (no k) p e = rw e

among-warm : (book : List ℕ) (version : ℕ) (question : List ℕ) → ok tt ≡ passed (task_among book version question) → needs_temperature (word question 1) ≡ true
unfolding task_among
among-warm book version question e =
    let t = bind_inv (task_among book version question) _ (sym e) in
    let a = bind_inv (task_in (rule_of book) question) _ t.1 in
    let b = need_inv (needs_temperature a.0) 12 _ a.2 in
    rw (task-read (rule_of book) question a.1) at (is_true (needs_temperature a.0) b.0)

-- ---- a feed x
numbered : (book : List ℕ) (version n : ℕ) (question : List ℕ) (x : List Float) → Numbered (model_of book) (feed_to book version n question x)
unfolding feed_to task_among
numbered book version n question x = search (numbers, num_task_in, num_rest, num_answer) depth 8

module _ (book : List ℕ) (version n : ℕ) (question : List ℕ) (x : List Float) where
  pub feed_stopped : {r : ℕ} → no r ≡ passed (task_among book version question) → feed_to book version n question x ≡ no r
  unfolding feed_to bind
  feed_stopped v = whatever_task _ _ v

  pub feed_asked : ok tt ≡ passed (task_among book version question)
      → feed_to book version n question x ≡ bind (rest_of question (molar_mass (words book)) n x) (answer_to book n)
  unfolding feed_to bind
  feed_asked v = whatever_task _ _ v

  module _ (v : ok tt ≡ passed (task_among book version question)) {q : Question} (e : ok q ≡ rest_of question (molar_mass (words book)) n x) where
    asks : Reads (word question) q
    asks = (reads question (molar_mass (words book)) n x).each q (sym e)

    pub feed-warm : needs_temperature q.task ≡ true
    feed-warm = rw asks.task (among-warm book version question v)

    pub feed_ready : {m : Mixture} {r : Result (Tabled Refusal) Refusal} {table ps : List Float} → Readied m (word question 1) (float (word question) 2) (float (word question) 3) r table ps
        → Readied m q.task q.temperature q.pressure r table ps
    feed_ready h = rw (asks.task, asks.temperature, asks.pressure) h

  -- its reply, by what the call on it gave
  module _ (rule : Rule) {r : Result Unit Refusal} {old mid : List ℕ} (a : Answers (feed_to book version n question x) (number_in r) old mid) where
    pub replied : r ≡ Ok tt → mid ≡ put old 0 (reply_of rule question (feed_to book version n question x))
    replied e = answered rule question (feed_to book version n question x) (numbered book version n question x) (rw e at a)

    pub refused : {e : Refusal} {new : List ℕ} → r ≡ Err e → answer_room ≤ length old → new ≡ stored mid 0 (refusal_bytes rule question (number e))
        → new ≡ put old 0 (reply_of rule question (feed_to book version n question x))
    refused {e} q l h = refuses rule question (feed_to book version n question x) e (rw q at a) l h

-- ---- what is kept
module _ {m : Mixture} {question : List ℕ} {table ps : List Float} where
  pub keeps-nothing : length table ≡ 512 → Keeps m question None table ps
  keeps-nothing l = record { room = λ e. l; made = λ r e. absurd (none r e) }
    where
      none : (r : Result (Tabled Refusal) Refusal) → None ≡ Some r → ⊥
      none r e = let z : ◌≡◌ {A = ℕ} 0 1 = cc in omega arith

  pub keeps-made : {r : Result (Tabled Refusal) Refusal} → Readied m (word question 1) (float (word question) 2) (float (word question) 3) r table ps → Keeps m question (Some r) table ps
  keeps-made {r} h = record { room = λ e. absurd (none e); made = λ s e. rw (same s e) h }
    where
      none : Some r ≡ None → ⊥
      none e = let z : ◌≡◌ {A = ℕ} 0 1 = cc in omega arith

      same : (s : Result (Tabled Refusal) Refusal) → Some r ≡ Some s → s ≡ r
      same s e = cc

-- ---- all feeds
pub feeds_turn : (book : List ℕ) (version n : ℕ) (question feeds old out : List ℕ) (k : ℕ) {rule : Rule} {x : List Float} {y : List ℕ} → rule ≡ rule_of book → x ≡ vec (λ i. float (word feeds) (8 * k + i)) n
    → y ≡ put (take (length out - answer_room * k) (drop (answer_room * k) out)) 0 (reply_of rule question (feed_to book version n question x))
    → out ≡ parts_to book version n question feeds old k
    → put_mid (answer_room * k) (length out - answer_room * k) out y ≡ parts_to book version n question feeds old (k + 1)
unfolding parts_to feed_reply feed_at
feeds_turn book version n question feeds old out k u f e h = parts-turn (feed_reply book version n question feeds) k old out (rw (u, f) at e) h

-- ---- the call
module _ (book question feeds old : List ℕ) {h : Head} (o : ok h ≡ book_of book) where
  pub room-no : true ≡ feeds_right feeds → length old < answer_room * feed_count feeds → feeds_of book question feeds old ≡ no 10
  unfolding feeds_of bind need
  room-no f l = rw (sym o, sym f, lt-leb (answer_room * feed_count feeds) (length old) l)

  pub all_answered : true ≡ feeds_right feeds → answer_room * feed_count feeds ≤ length old
      → feeds_of book question feeds old ≡ ok (parts_to book h.version (places h.n) question feeds old (feed_count feeds))
  unfolding feeds_of bind need
  all_answered f l =
      let m : places h.n ≡ h.n = min-eq_left (accepted book (sym o)).few in
      rw (sym o, sym f, le-leb (answer_room * feed_count feeds) (length old) l, m)

pub few_feeds : (feeds : List ℕ) → true ≡ feeds_right feeds → feed_count feeds ≤ 64
unfolding feeds_right
few_feeds feeds e = leb-true (feed_count feeds) 64 (last (eqb (length feeds % 64) 0) (leb 1 (feed_count feeds)) (leb (feed_count feeds) 64) (sym e))
  where
    last : (a b c : Bool) → a && (b && c) ≡ true → c ≡ true
    last true true c e = e
    last true false c e = absurd (true≢false (sym e))
    last false b c e = absurd (true≢false (sym e))
