-- Striking on the floor, by the one theorem: the floor's words are words of the sheets that it makes the same. Assumes nothing.
use Prim.Native.Nat.{ℕ, ◌+◌, ◌*◌, ◌≤◌, ◌<◌}
use mathlib.Core.Path.{◌≡◌, refl, sym, ap, ◌∙◌}
use mathlib.Core.Logic.{◌⊎◌, inl, inr}
use mathlib.Core.Bool.{Bool, true, false, not}
use mathlib.Core.List.{List}
use native.Mathlib.Omega.{arith}
use borrow.Author.Tests.{eqb-true, eqb-false}
use lib.Dec.{T, eqb, ltb, ltb→lt, nltb→le}
use lib.ListN.{length}
use lib.Seq.{get_or-take}
use Rattle.floats.specs.Outcome.{ok}
use Rattle.floats.proofs.Outcomes.{bind_inv}
use Rattle.blocks.specs.Words.{word, block}
use Rattle.blocks.specs.Bytes.{word_at}
use Rattle.book.specs.Places.{words}
use Rattle.book.specs.declared.Head.{Head}
use Rattle.book.specs.Book.{book_of, rule_of}
use Rattle.book.proofs.Accepted.{accepted}
use Rattle.exchanges.proofs.Places.{word-by}
use Rattle.readers.specs.Readers.{floor_place, shown_of, floor_words}
use Rattle.replies.specs.Blocks.{answer_room}
use Rattle.sheet.specs.Sheet.{sheet_of}
use Rattle.striking.specs.Places.{cnt}
use Rattle.striking.specs.Words.{SameWord}
use Rattle.striking.specs.Questions.{kept_in, solvents}
use Rattle.striking.specs.Sheets.{SameSheet}
use Rattle.striking.proofs.Vectors.{new-below}
use Rattle.striking.proofs.Theorem.{striking}
use Rattle.pool.specs.Pool.{pooled_of}
use Rattle.pools.proofs.Plain.{accepted-is}
use Rattle.pools.proofs.Strike.{pooled-striking}
use Rattle.preview.specs.Preview.{preview_of}
use Rattle.previews.proofs.Strike.{absent-pair, kept_pair}
use Rattle.batches.specs.Alone.{task_for}
use Rattle.batches.proofs.Strike.{feed_demand3}
use Rattle.queues.proofs.Strike.{queue_demand3}
use Rattle.floors.specs.Written.{Reads}
use Rattle.floors.specs.Striking.{SameFloor, SameOnFloor, FloorStriking, PooledFloor, AbsentPairFloor, KeptPairFloor, FeedFloor, QueueFloor}
use Rattle.floors.proofs.Calls.{plain-read, pooled-read, preview_read, feeds_read, queue_read}
use Rattle.floors.proofs.Words.{place_rest, shown-five, shown-all, place-shown, place_hidden, place-five}

-- a word of the answer block
first_block : (s : List ℕ) (k : ℕ) → k < 64 → words s 0 k ≡ word s k
unfolding word block
first_block s k l = word-by s (block s 0) (8 * k) (8 * k) (λ i m. get_or-take 512 s (8 * k + i) 0 (omega arith))

-- ---- sheets that are the same show the same floor sheet
module _ (keep : ℕ → Bool) (n : ℕ) (small : n ≤ 8) (s s' : List ℕ) (h : SameSheet keep n s s') where
  at : (k k' : ℕ) → k < 64 → k' < 64 → SameWord (words s 0 k) (words s' 0 k') → SameWord (word s k) (word s' k')
  at k k' l l' e = rw (first_block s k l, first_block s' k' l') at e

  task : SameWord (word s 1) (word s' 1)
  task = at 1 1 (omega arith) (omega arith) (h.answer.front 1 (omega arith))

  zero_shows : (w : ℕ) → (w ≡ 0) ⊎ (w ≡ 0x8000000000000000) → shown_of w ≡ 22
  zero_shows w (inl e) = shown-all w (λ (q : w ≡ 1). omega arith)
  zero_shows w (inr e) = shown-all w (λ (q : w ≡ 1). omega arith)

  shown-same : shown_of (word s 1) ≡ shown_of (word s' 1)
  shown-same = elim task.either [
    | inl e ↦ ap shown_of e
    | inr z ↦ zero_shows (word s 1) z.0 ∙ sym (zero_shows (word s' 1) z.1)
  ]

  same : {a b c d : ℕ} → a ≡ c → b ≡ d → SameWord c d → SameWord a b
  same e f k = rw (e, f) k

  -- places i and i' behind the first five: words k and k', or 0
  behind : (i i' k k' : ℕ) → 5 ≤ i → 5 ≤ i' → i < 22 → i' < 22 → floor_place i ≡ k → floor_place i' ≡ k' → SameWord (word s k) (word s' k')
      → SameWord (word_at (floor_words s) i) (word_at (floor_words s') i')
  behind i i' k k' l l' m m' p p' w = go (eqb (word s 1) 1) refl
    where
      go : (b : Bool) → eqb (word s 1) 1 ≡ b → SameWord (word_at (floor_words s) i) (word_at (floor_words s') i')
      go true t =
          let e = shown-five (word s 1) (eqb-true (word s 1) 1 t) in
          same (place_hidden s e i m l) (place_hidden s' (sym shown-same ∙ e) i' m' l') (record { either = inl refl })
      go false t =
          let e = shown-all (word s 1) (eqb-false (word s 1) 1 t) in
          same (place-shown s e i (omega arith) m ∙ ap (word s) p) (place-shown s' (sym shown-same ∙ e) i' (omega arith) m' ∙ ap (word s') p') w

  entries : (f : ℕ) → 6 ≤ f → f ≤ 14 → (i : ℕ) → i < n → T (keep i) → SameWord (words s 0 (8 + f + i)) (words s' 0 (8 + f + cnt keep i))
      → SameWord (word_at (floor_words s) (f + i)) (word_at (floor_words s') (f + cnt keep i))
  entries f l m i k t w =
      let c = new-below keep n small i k t in
      let e : 8 + (f + i) ≡ 8 + f + i = omega arith in
      let e' : 8 + (f + cnt keep i) ≡ 8 + f + cnt keep i = omega arith in
      behind (f + i) (f + cnt keep i) (8 + f + i) (8 + f + cnt keep i) (omega arith) (omega arith) (omega arith) (omega arith)
      (place_rest (f + i) (omega arith) ∙ e) (place_rest (f + cnt keep i) (omega arith) ∙ e')
      (at (8 + f + i) (8 + f + cnt keep i) (omega arith) (omega arith) w)

  front_same : (i : ℕ) (b : Bool) → (T b → i < 5) → (T (not b) → 5 ≤ i) → i ≤ 5 → SameWord (word_at (floor_words s) i) (word_at (floor_words s') i)
  unfolding floor_place
  front_same i true f g l =
      same (place-five s i (f tt)) (place-five s' i (f tt)) (at (1 + i) (1 + i) (omega arith) (omega arith) (h.answer.front (1 + i) (omega arith)))
  front_same i false f g l =
      let q : i ≡ 5 = omega (arith, g tt) in
      let fraction = at 11 11 (omega arith) (omega arith) (h.answer.front 11 (omega arith)) in
      rw q (behind 5 5 11 11 (omega arith) (omega arith) (omega arith) (omega arith) refl refl fraction)

  floor-same : SameFloor keep n (floor_words s) (floor_words s')
  floor-same = record {
    front = λ i l. front_same i (ltb i 5) (ltb→lt i 5) (nltb→le i 5) l;
    liquid = record { entry = λ i l t. entries 6 (omega arith) (omega arith) i l t (h.answer.liquid.entry i l t) };
    vapor = record { entry = λ i l t. entries 14 (omega arith) (omega arith) i l t (h.answer.vapor.entry i l t) };
  }

  on-floor : {bs bs' : List ℕ} → Reads s bs → Reads s' bs' → SameOnFloor keep n s s'
  on-floor r r' = record { longer = floor_words s; shorter = floor_words s'; read = r.floor; read' = r'.floor; same = floor-same }

-- ---- an accepted book has at most eight solvents
book-few : (book : List ℕ) {h : Head} → book_of book ≡ ok h → solvents book ≤ 8
book-few book e = let a = accepted book e in omega (arith, a.count, a.few)

sheet_few : (book question : List ℕ) (room : ℕ) {bs : List ℕ} → sheet_of book question room ≡ ok bs → solvents book ≤ 8
unfolding sheet_of
sheet_few book question room e = book-few book (bind_inv (book_of book) _ e).1

-- ---- the calls
pub floor-striking : FloorStriking
floor-striking book question book' question' h old old' enough took =
    let s = striking book question book' question' h old old' enough took in
    let a = accepted-is (sheet_of book question (length old)) took in
    let a' = accepted-is (sheet_of book' question' (length old')) s.0 in
    on-floor (kept_in question) (solvents book) (sheet_few book question (length old) a.1) _ _ s.1
    (plain-read book question (length old) a.0 old a.1) (plain-read book' question' (length old') a'.0 old' a'.1)

pooled_few : (book question drums : List ℕ) (room : ℕ) {bs : List ℕ} → pooled_of book question drums room ≡ ok bs → solvents book ≤ 8
unfolding pooled_of
pooled_few book question drums room e = book-few book (bind_inv (book_of book) _ e).1

pub pooled-floor : PooledFloor
pooled-floor book question drums book' question' drums' h old old' enough took =
    let s = pooled-striking book question drums book' question' drums' h old old' enough took in
    let a = accepted-is (pooled_of book question drums (length old)) took in
    let a' = accepted-is (pooled_of book' question' drums' (length old')) s.0 in
    on-floor _ (solvents book) (pooled_few book question drums (length old) a.1) _ _ s.1
    (pooled-read book question drums (length old) a.0 old a.1) (pooled-read book' question' drums' (length old') a'.0 old' a'.1)

preview_few : (book offered question : List ℕ) (room : ℕ) {bs : List ℕ} → preview_of book offered question room ≡ ok bs → solvents book ≤ 8
unfolding preview_of
preview_few book offered question room e = book-few book (bind_inv (book_of book) _ e).1

pub absent-pair-floor : AbsentPairFloor
absent-pair-floor book offered question book' question' h gone old old' enough took =
    let s = absent-pair book offered question book' question' h gone old old' enough took in
    let a = accepted-is (preview_of book offered question (length old)) took in
    let a' = accepted-is (sheet_of book' question' (length old')) s.0 in
    on-floor (kept_in question) (solvents book) (preview_few book offered question (length old) a.1) _ _ s.1
    (preview_read book offered question (length old) a.0 old a.1) (plain-read book' question' (length old') a'.0 old' a'.1)

pub kept-pair-floor : KeptPairFloor
kept-pair-floor book offered question book' offered' question' h p q ho old old' enough took =
    let s = kept_pair book offered question book' offered' question' h p q ho old old' enough took in
    let a = accepted-is (preview_of book offered question (length old)) took in
    let a' = accepted-is (preview_of book' offered' question' (length old')) s.0 in
    on-floor (kept_in question) (solvents book) (preview_few book offered question (length old) a.1) _ _ s.1
    (preview_read book offered question (length old) a.0 old a.1) (preview_read book' offered' question' (length old') a'.0 old' a'.1)

pub feed-floor : FeedFloor
feed-floor book question feeds old new book' question' feeds' old' new' r r' k k' call a call' a' h took =
    let s = feed_demand3 book question feeds old new book' question' feeds' old' new' r r' k k' call a call' a' h took in
    let few = sheet_few book r answer_room (accepted-is (sheet_of book r answer_room) took).1 in
    let t = accepted-is (task_for (rule_of book) question) a.task in
    let t' = accepted-is (task_for (rule_of book') question') a'.task in
    on-floor (kept_in r) (solvents book) few _ _ s.1
    ((feeds_read book question feeds old new call).alone t.0 t.1 k a.below r a.asked)
    ((feeds_read book' question' feeds' old' new' call').alone t'.0 t'.1 k' a'.below r' a'.asked)

pub queue_floor : QueueFloor
queue_floor book questions allowance h old new book' question' old' k opened call below asked shorter took enough =
    let s = queue_demand3 book questions allowance h old new book' question' old' k opened call below asked shorter took enough in
    let a' = accepted-is (sheet_of book' question' (length old')) s.0 in
    on-floor (kept_in (block questions k)) (solvents book) (book-few book opened) _ _ s.1
    (queue_read book questions allowance h old new opened call k below) (plain-read book' question' (length old') a'.0 old' a'.1)
