-- A pooled call doesn't read words 4 to 11 of its question, nor the counts of a drum behind the n-th. Assumes nothing.
use Prim.Native.Nat.{ℕ, ◌/◌, ◌≤◌, ◌<◌}
use mathlib.Core.Path.{◌≡◌, refl, ap, ◌∙◌}
use mathlib.Core.Logic.{inl, inr}
use mathlib.Core.List.{List}
use native.Mathlib.Omega.{arith}
use lib.Ieee.{Float}
use Rattle.floats.specs.Outcome.{Out, ok, no, bind}
use Rattle.blocks.specs.declared.Rule.{Rule}
use Rattle.blocks.specs.Words.{word}
use Rattle.book.specs.declared.Head.{Head}
use Rattle.book.specs.Places.{words}
use Rattle.book.specs.Book.{molar_mass, book_of, rule_of}
use Rattle.book.proofs.Accepted.{accepted}
use Rattle.question.specs.declared.Question.{Question}
use Rattle.question.specs.Asked.{task_in, moles_of, rest_of}
use Rattle.feeds.proofs.Rest.{rest_in, rest-alike}
use Rattle.sheet.specs.Sheet.{answer_to}
use Rattle.pool.specs.Pool.{total_to, drum_count, count_in, pool_count, pool_feed, fed_to, drums_to, pooled_from, pooled_of}
use Rattle.pool.proofs.Laws.{total_cong}
use Rattle.pools.specs.Unread.{SameElse, UnreadFractions, UnreadCounts}
use Rattle.pools.proofs.Drums.{sized-alike, pool_alike}

module _ {rule : Rule} (q r : List ℕ) (a : SameElse rule q r) where
  front : (k : ℕ) → k < 4 → word q k ≡ word r k
  front k h = a.others k (omega arith) (inl h)

  behind : (k : ℕ) → 12 ≤ k → k < 63 → word q k ≡ word r k
  behind k h g = a.others k g (inr h)

  kind : word q 27 ≡ word r 27
  kind = behind 27 (omega arith) (omega arith)

  task-same : task_in rule q ≡ task_in rule r
  unfolding task_in
  task-same = rw (a.check, a.check', a.size, front 0 (omega arith), front 1 (omega arith))

  moles-same : (m : ℕ → Float) (n : ℕ) (x : List Float) → moles_of (word q) m n x ≡ moles_of (word r) m n x
  unfolding moles_of
  moles-same m n x = rw kind

  rest-same : (m : ℕ → Float) (n : ℕ) (x : List Float) → n ≤ 8 → rest_of q m n x ≡ rest_of r m n x
  unfolding rest_of rest_in
  rest-same m n x few = rw (moles-same m n x) (rest-alike q r n few front (λ k i h. behind k i (omega arith)) x (moles_of (word r) m n x))

then_same : {A B : Type 0} (o : Out A) (k k' : A → Out B) → ((x : A) → k x ≡ k' x) → bind o k ≡ bind o k'
unfolding bind
then_same (ok x) k k' e = e x
then_same (no r) k k' e = refl

module _ (book q r drums : List ℕ) (a : SameElse (rule_of book) q r) (n : ℕ) (few : n ≤ 8) where
  fed-same : (x : List Float) → fed_to book n q x ≡ fed_to book n r x
  unfolding fed_to
  fed-same x = ap (λ (o : Out Question). bind o (answer_to book n)) (rest-same q r a (molar_mass (words book)) n x few)

  from_same : (room : ℕ) → pooled_from book n q drums room ≡ pooled_from book n r drums room
  unfolding pooled_from drums_to
  from_same room =
      let f : bind (pool_feed drums n) (fed_to book n q) ≡ bind (pool_feed drums n) (fed_to book n r) = then_same (pool_feed drums n) _ _ fed-same in
      rw (task-same q r a, kind q r a, f)

pub unread-fractions : UnreadFractions
unfolding pooled_of bind
unread-fractions book q r drums room a = go (book_of book) refl
  where
    go : (o : Out Head) → book_of book ≡ o → bind o (λ h. pooled_from book h.n q drums room) ≡ bind o (λ h. pooled_from book h.n r drums room)
    go (no k) e = refl
    go (ok h) e = from_same book q r drums a h.n (accepted book e).few room

pub unread-counts : UnreadCounts
unfolding pool_count
unread-counts book question drums drums' room e c =
    pool_alike drums drums' (sized-alike drums drums' e) book question room (λ i l k.
    total_cong (λ d. count_in drums d i) (λ d. count_in drums' d i) (drum_count drums) (λ d h. c d i h l) ∙ ap (λ (m : ℕ). total_to (λ d. count_in drums' d i) (m / 64)) e)
