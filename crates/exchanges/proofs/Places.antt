-- The words of a book in which two neighbouring words are exchanged: these two, and all others as they were. Assumes nothing.
use Prim.Native.Nat.{ℕ, ◌+◌, ◌-◌, ◌*◌, ◌/◌, ◌≤◌, ◌<◌}
use mathlib.Core.Path.{◌≡◌, sym, ap, ◌∙◌}
use mathlib.Core.Logic.{◌≢◌}
use mathlib.Core.Bool.{Bool, true, false, not}
use mathlib.Core.List.{List, ◌++◌}
use native.Mathlib.Nat.{add-zero}
use native.Mathlib.Omega.{arith}
use lib.Dec.{T, ltb, ltb→lt, nltb→le}
use lib.ListN.{length, take, drop, length-take, length-drop, length-append, get_or-append}
use lib.Seq.{length-take-le, get_or-append-add, get_or-take, get_or-drop}
use Rattle.blocks.specs.Words.{byte, word_from, word, block}
use Rattle.blocks.specs.Bytes.{put}
use Rattle.book.specs.Places.{words}
use Rattle.exchanges.specs.Exchanges.{exchange}

-- the bytes of a list with others put into it
module _ (l bs : List ℕ) (from : ℕ) (h : from ≤ length l) where
  front : length (take from l ++ bs) ≡ from + length bs
  front = rw (length-append, length-take-le from l h)

  pub put_before : (i : ℕ) → i < from → byte (put l from bs) i ≡ byte l i
  put_before i u =
      let a : i < length (take from l ++ bs) = rw front (omega arith) in
      let b : i < length (take from l) = rw (length-take-le from l h) u in
      get_or-append (take from l ++ bs) _ 0 i a ∙ get_or-append (take from l) bs 0 i b ∙ get_or-take from l i 0 u

  pub put-inside : (i : ℕ) → i < length bs → byte (put l from bs) (from + i) ≡ byte bs i
  put-inside i u =
      let a : from + i < length (take from l ++ bs) = rw front (omega arith) in
      get_or-append (take from l ++ bs) _ 0 (from + i) a
      ∙ ap (λ (x : ℕ). byte (take from l ++ bs) (x + i)) (sym (length-take-le from l h)) ∙ get_or-append-add (take from l) bs i 0

  pub put-behind : (i : ℕ) → from + length bs ≤ i → byte (put l from bs) i ≡ byte l i
  put-behind i u =
      let e : i ≡ from + length bs + (i - (from + length bs)) = omega arith in
      let rest = drop (from + length bs) l in
      ap (λ (x : ℕ). byte (put l from bs) x) e
      ∙ ap (λ (x : ℕ). byte (take from l ++ bs ++ rest) (x + (i - (from + length bs)))) (sym front)
      ∙ get_or-append-add (take from l ++ bs) rest (i - (from + length bs)) 0
      ∙ get_or-drop (from + length bs) l (i - (from + length bs)) 0 ∙ ap (λ (x : ℕ). byte l x) (sym e)

-- a word by its bytes
pub word-by : (s t : List ℕ) (a b : ℕ) → ((i : ℕ) → i < 8 → byte t (a + i) ≡ byte s (b + i)) → word_from t a ≡ word_from s b
word-by s t a b e =
    let z : byte t a ≡ byte s b = rw (add-zero, add-zero) at (e 0 (omega arith)) in
    rw (z, e 1 (omega arith), e 2 (omega arith), e 3 (omega arith), e 4 (omega arith), e 5 (omega arith), e 6 (omega arith), e 7 (omega arith))

words-at : (s : List ℕ) (j k : ℕ) → k < 64 → words s j k ≡ word_from s (512 * j + 8 * k)
unfolding word block
words-at s j k l = word-by s (take 512 (drop (512 * j) s)) (8 * k) (512 * j + 8 * k) (λ i m.
    let e : 512 * j + (8 * k + i) ≡ 512 * j + 8 * k + i = omega arith in
    get_or-take 512 (drop (512 * j) s) (8 * k + i) 0 (omega arith) ∙ get_or-drop (512 * j) s (8 * k + i) 0 ∙ ap (λ (x : ℕ). byte s x) e)

module _ (s : List ℕ) (j k : ℕ) (there : j < length s / 512) (l : k < 62) where
  at : ℕ
  at = 512 * j + 8 * k

  high : List ℕ
  high = take 8 (drop (at + 8) s)

  low : List ℕ
  low = take 8 (drop at s)

  room : at + 16 ≤ length s
  unfolding at
  room = omega arith

  high-long : length high ≡ 8
  unfolding high
  high-long = simp (length-take, length-drop) (omega (arith, room))

  low-long : length low ≡ 8
  unfolding low
  low-long = simp (length-take, length-drop) (omega (arith, room))

  both_long : length (high ++ low) ≡ 16
  both_long = rw (length-append, high-long, low-long)

  pub exchange_length : length (exchange s j k) ≡ length s
  unfolding exchange at high low
  exchange_length = simp (length-append, length-take, length-drop) (omega (arith, room))

  first_byte : (i : ℕ) → i < 8 → byte (exchange s j k) (at + i) ≡ byte s (at + 8 + i)
  unfolding exchange at high low
  first_byte i m =
      put-inside s (high ++ low) at (omega (arith, room)) i (omega (arith, both_long))
      ∙ get_or-append high low 0 i (omega (arith, high-long)) ∙ get_or-take 8 (drop (at + 8) s) i 0 m ∙ get_or-drop (at + 8) s i 0

  second-byte : (i : ℕ) → i < 8 → byte (exchange s j k) (at + 8 + i) ≡ byte s (at + i)
  unfolding exchange at high low
  second-byte i m =
      let e : at + 8 + i ≡ at + (8 + i) = omega arith in
      ap (λ (x : ℕ). byte (exchange s j k) x) e
      ∙ put-inside s (high ++ low) at (omega (arith, room)) (8 + i) (omega (arith, both_long))
      ∙ ap (λ (x : ℕ). byte (high ++ low) (x + i)) (sym high-long) ∙ get_or-append-add high low i 0 ∙ get_or-take 8 (drop at s) i 0 m ∙ get_or-drop at s i 0

  other_byte : (i : ℕ) → (b : Bool) → (T b → i < at) → (T (not b) → at + 16 ≤ i) → byte (exchange s j k) i ≡ byte s i
  unfolding exchange at high low
  other_byte i true f g = put_before s (high ++ low) at (omega (arith, room)) i (f tt)
  other_byte i false f g = put-behind s (high ++ low) at (omega (arith, room)) i (omega (arith, both_long, g tt))

  pub exchange-first : words (exchange s j k) j k ≡ words s j (k + 1)
  unfolding at
  exchange-first =
      let e : 512 * j + 8 * (k + 1) ≡ at + 8 = omega arith in
      words-at (exchange s j k) j k (omega arith) ∙ word-by s (exchange s j k) at (at + 8) first_byte
      ∙ sym (words-at s j (k + 1) (omega arith) ∙ ap (λ (x : ℕ). word_from s x) e)

  pub exchange-second : words (exchange s j k) j (k + 1) ≡ words s j k
  unfolding at
  exchange-second =
      let e : 512 * j + 8 * (k + 1) ≡ at + 8 = omega arith in
      words-at (exchange s j k) j (k + 1) (omega arith) ∙ ap (λ (x : ℕ). word_from (exchange s j k) x) e
      ∙ word-by s (exchange s j k) (at + 8) at second-byte ∙ sym (words-at s j k (omega arith))

  pub exchange-other : (b m : ℕ) → m < 64 → (b ≡ j → m ≢ k) → (b ≡ j → m ≢ k + 1) → words (exchange s j k) b m ≡ words s b m
  unfolding at
  exchange-other b m u p q =
      words-at (exchange s j k) b m u
      ∙ word-by s (exchange s j k) (512 * b + 8 * m) (512 * b + 8 * m) (λ i v. other_byte (512 * b + 8 * m + i) (ltb (64 * b + m) (64 * j + k))
      (λ t. omega (arith, ltb→lt (64 * b + m) (64 * j + k) t)) (λ t. beyond i (nltb→le (64 * b + m) (64 * j + k) t)))
      ∙ sym (words-at s b m u)
    where
      away : (a b : ℕ) → b ≤ a → a ≢ b → a ≢ b + 1 → b + 2 ≤ a
      away a b h x z = omega arith

      beyond : (i : ℕ) → 64 * j + k ≤ 64 * b + m → 512 * j + 8 * k + 16 ≤ 512 * b + 8 * m + i
      beyond i h =
          let x : 64 * b + m ≢ 64 * j + k = λ e. let y : b ≡ j = omega arith in p y (omega arith) in
          let z : 64 * b + m ≢ 64 * j + k + 1 = λ e. let y : b ≡ j = omega arith in q y (omega arith) in
          let w : 64 * j + k + 2 ≤ 64 * b + m = away (64 * b + m) (64 * j + k) h x z in
          omega arith
