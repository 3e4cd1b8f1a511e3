-- Laws of words, sums and rows of bytes, which the proofs of reading and writing cite. Assumes nothing.
use Rattle.std.proofs.Common.{◌≡◌, ℕ, zero, suc, ◌+◌, ◌-◌, ◌*◌, ◌/◌, ◌%◌, ◌^◌, ◌<◌, ◌≤◌, List, [], ◌++◌, length, get_or, take, drop, sym, refl, ap, ◌∙◌, ⊎_elim, append_assoc, append-nil, add-zero, suc-mul, eq-or-lt_of_le, add-one, arith, length-append, length-drop, drop_of_length-le, length-take, take_all, drop-drop, take_at, get_or-append-add, le-leb}
use lib.ListN.{get_or-eq_default}
use borrow.Author.Tests.{lt-leb}
use lib.Seq.{take-nil, drop-append-add}
use borrow.Rule.Slice.PartMut.{put_mid}
use Rattle.std.specs.Simd.{first_chunks}
use Rattle.std.specs.Int.{w64, to_le_bytes}
use Rattle.std.proofs.lemmas.Nat.{from_le_bytes-to_le_bytes_8}
use Rattle.blocks.specs.Words.{check_sum, running_sum, sum_by, word_from, word, block}
use Rattle.blocks.specs.Bytes.{bytes, row_to, block_bytes, put, stored}
use Rattle.blocks.specs.declared.Rule.{Rule}
use Rattle.blocks.specs.declared.Rule.TheVariants.{Plain, Running}

pub sum-turn : (f : ℕ → ℕ) {s w r : ℕ} (k : ℕ) → s ≡ check_sum f k → w ≡ f k → r ≡ (s + w) % 2 ^ 64 → r ≡ check_sum f (k + 1)
unfolding check_sum
sum-turn f k e v h = rw add-one (h ∙ rw (e, v))

pub runs-turn : (f : ℕ → ℕ) {s r r' : ℕ} (k : ℕ) → r ≡ running_sum f k → s ≡ check_sum f (k + 1) → r' ≡ (r + s) % 2 ^ 64 → r' ≡ running_sum f (k + 1)
unfolding running_sum
runs-turn f k e v h = rw add-one (h ∙ rw (e, v, add-one))

pub length_block : (s : List ℕ) (k : ℕ) → 512 * k + 512 ≤ length s → length (block s k) ≡ 512
unfolding block
length_block s k h = simp (length-take, length-drop) (omega arith)

pub word-past : (s : List ℕ) (k : ℕ) → length s / 8 < k → 0 ≡ word s k
unfolding word
word-past s k h =
    let g : (i : ℕ) → get_or s (8 * k + i) 0 ≡ 0 = λ i. let l : length s ≤ 8 * k + i = omega arith in get_or-eq_default s 0 l in
    let l : length s ≤ 8 * k = omega arith in
    let z : get_or s (8 * k) 0 ≡ 0 = get_or-eq_default s 0 l in
    rw (z, g 1, g 2, g 3, g 4, g 5, g 6, g 7)

pub block_none : (s : List ℕ) (k : ℕ) → length s ≤ 512 * k → block s k ≡ []
unfolding block
block_none s k l = rw (drop_of_length-le s l, take-nil)

-- of the whole blocks one by one, and of what is left behind them
pub block-whole : (n : ℕ) (s : List ℕ) (k : ℕ) → k < n → get_or (first_chunks 512 n s) k [] ≡ block s k
unfolding block
block-whole zero s k l = absurd (omega arith)
block-whole (suc n) s zero l = refl
block-whole (suc n) s (suc k) l =
    let e : 512 + 512 * k ≡ 512 * suc k = omega arith in
    block-whole n (drop 512 s) k (omega arith) ∙ ap (take 512) (drop-drop (512 * k) 512 s ∙ ap (λ m. drop m s) e)

pub block-rest : (s : List ℕ) (k : ℕ) → k ≡ length s / 512 → drop (length s / 512 * 512) s ≡ block s k
unfolding block
block-rest s k h =
    let e : length s / 512 * 512 ≡ 512 * k = omega arith in
    let b : length (drop (512 * k) s) ≤ 512 = simp length-drop (omega arith) in
    rw e (sym (take_all 512 (drop (512 * k) s) b))

pub length_bytes : (w : ℕ) → length (bytes w) ≡ 8
unfolding bytes
length_bytes w = refl

-- one more piece in a row that is written from the front
pub put-more : (p l bs : List ℕ) (from : ℕ) → length p ≡ from → put (p ++ drop from l) from bs ≡ (p ++ bs) ++ drop (from + length bs) l
put-more p l bs from e =
    let d : drop (from + length bs) (p ++ drop from l) ≡ drop (from + length bs) l =
    ap (λ (k : ℕ). drop (k + length bs) (p ++ drop from l)) (sym e) ∙ drop-append-add p (drop from l) (length bs) ∙ drop-drop (length bs) from l in
    rw (take_at p (drop from l) from e, d)

pub length_row : (f : ℕ → List ℕ) (m n : ℕ) → ((k : ℕ) → length (f k) ≡ m) → length (row_to f n) ≡ n * m
unfolding row_to
length_row f m zero h = omega arith
length_row f m (suc n) h = rw (length-append, h, length_row f m n h) (sym (suc-mul n m))

pub length_words : (w : ℕ → ℕ) (n : ℕ) → length (row_to (λ k. bytes (w k)) n) ≡ n * 8
length_words w n = length_row (λ k. bytes (w k)) 8 n (λ k. length_bytes (w k))

-- the turn of a loop that writes f 0, f 1 and on, m bytes each
pub row-turn : (f : ℕ → List ℕ) (m k from : ℕ) (old : List ℕ) {out out' bs : List ℕ} → ((k : ℕ) → length (f k) ≡ m) → from ≡ k * m → bs ≡ f k
    → out ≡ row_to f k ++ drop from old → out' ≡ put out from bs → out' ≡ row_to f (k + 1) ++ drop (from + m) old
unfolding row_to
row-turn f m k from old {out} {out'} {bs} h e v o o' =
    rw add-one (o' ∙ rw (o, v) (put-more (row_to f k) old (f k) from (length_row f m k h ∙ sym e) ∙ rw h))

pub length_block-bytes : (rule : Rule) (w : ℕ → ℕ) → length (block_bytes rule w) ≡ 512
unfolding block_bytes
length_block-bytes rule w = rw (length-append, length_words w 63, length_bytes)

pub word-turn : (w : ℕ → ℕ) (k : ℕ) (old : List ℕ) {out out' : List ℕ} → out ≡ row_to (λ i. bytes (w i)) k ++ drop (8 * k) old
    → out' ≡ put out (8 * k) (bytes (w k)) → out' ≡ row_to (λ i. bytes (w i)) (k + 1) ++ drop (8 * (k + 1)) old
word-turn w k old o o' =
    let e : 8 * (k + 1) ≡ 8 * k + 8 = omega arith in
    rw e (row-turn (λ i. bytes (w i)) 8 k (8 * k) old (λ i. length_bytes (w i)) (omega arith) refl o o')

pub words-end : (w : ℕ → ℕ) (old : List ℕ) (check : ℕ) {out out' : List ℕ} {k : ℕ} → k ≤ 63 → 63 ≤ k
    → out ≡ row_to (λ i. bytes (w i)) k ++ drop (8 * k) old → out' ≡ put out 504 (bytes check)
    → out' ≡ (row_to (λ i. bytes (w i)) 63 ++ bytes check) ++ drop 512 old
words-end w old check {out} {out'} {k} a b o o' =
    let e : k ≡ 63 = omega arith in
    o' ∙ rw (o, e) (put-more (row_to (λ i. bytes (w i)) 63) old (bytes check) 504 (length_words w 63) ∙ rw length_bytes)

-- the bytes of a word, and these in the place of eight others
bytes_of : (w : ℕ) → to_le_bytes w64 w ≡ bytes w
unfolding bytes
bytes_of w = refl

pub word-put : (l : List ℕ) (w from : ℕ) {x : List ℕ} → x ≡ to_le_bytes w64 w → put_mid from (from + 8 - from) l x ≡ put l from (bytes w)
word-put l w from {x} e =
    let n : from + 8 - from ≡ 8 = omega arith in
    let b : x ≡ bytes w = e ∙ bytes_of w in
    rw (b, n, drop-drop, ← append_assoc, length_bytes)

-- a part from an index on, with its first bytes replaced
pub part-put : (l bs : List ℕ) (from : ℕ) → take from l ++ (bs ++ drop (length bs) (drop from l)) ≡ put l from bs
part-put l bs from = rw (drop-drop, ← append_assoc)

tail_put : (l bs : List ℕ) {x : List ℕ} (from : ℕ) {n : ℕ} → length bs ≡ n → x ≡ bs ++ drop n (take (length l - from) (drop from l))
    → put_mid from (length l - from) l x ≡ put l from bs
tail_put l bs from n e =
    let d : length (drop from l) ≤ length l - from = simp length-drop (omega arith) in
    let q : drop (length l - from) (drop from l) ≡ [] = drop_of_length-le (drop from l) d in
    rw (e, take_all (length l - from) (drop from l) d, q, append-nil, ← n) (part-put l bs from)

-- a block at the front of the part from an index on
pub block-put : (l : List ℕ) (rule : Rule) (w : ℕ → ℕ) (from : ℕ) {x : List ℕ} {check : ℕ} → check ≡ sum_by rule w
    → x ≡ (row_to (λ i. bytes (w i)) 63 ++ bytes check) ++ drop 512 (take (length l - from) (drop from l))
    → put_mid from (length l - from) l x ≡ put l from (block_bytes rule w)
unfolding block_bytes
block-put l rule w from s e = tail_put l (block_bytes rule w) from (length_block-bytes rule w) (e ∙ rw s)

-- what was written is read back
pub word_bytes : (w : ℕ) → w < 2 ^ 64 → word_from (bytes w) 0 ≡ w
unfolding bytes
word_bytes w h = omega (arith, from_le_bytes-to_le_bytes_8 w h)

-- a word that stands behind other bytes
word-behind : (p q : List ℕ) (n : ℕ) → length p ≡ n → word_from (p ++ q) n ≡ word_from q 0
word-behind p q n e =
    let g : (i : ℕ) → get_or (p ++ q) (n + i) 0 ≡ get_or q i 0 = λ i. ap (λ (m : ℕ). get_or (p ++ q) (m + i) 0) (sym e) ∙ get_or-append-add p q i 0 in
    let z : get_or (p ++ q) n 0 ≡ get_or q 0 0 = ap (λ (m : ℕ). get_or (p ++ q) m 0) (sym (add-zero n)) ∙ g 0 in
    rw (z, g 1, g 2, g 3, g 4, g 5, g 6, g 7)

word-front : (w : ℕ) (r : List ℕ) → word_from (bytes w ++ r) 0 ≡ word_from (bytes w) 0
unfolding bytes
word-front w r = refl

-- word k of words that were written one after the other, modulo 2^64
pub row_read : (w : ℕ → ℕ) (n k : ℕ) (r : List ℕ) → k < n → word (row_to (λ i. bytes (w i)) n ++ r) k ≡ word_from (bytes (w k)) 0
unfolding row_to word
row_read w zero k r l = absurd (omega arith)
row_read w (suc n) k r l =
    ⊎_elim
    (λ e. let m : n ≡ k = omega arith in
    let j : k * 8 ≡ 8 * k = omega arith in
    rw (m, append_assoc) (word-behind (row_to (λ i. bytes (w i)) k) (bytes (w k) ++ r) (8 * k) (length_words w k ∙ j) ∙ word-front (w k) r))
    (λ q. let m : k < n = omega arith in rw append_assoc (row_read w n k (bytes (w n) ++ r) m))
    (eq-or-lt_of_le l)

sum-small : (w : ℕ → ℕ) (n : ℕ) → check_sum w n < 2 ^ 64
unfolding check_sum
sum-small w zero = omega arith
sum-small w (suc n) = omega arith

runs-small : (w : ℕ → ℕ) (n : ℕ) → running_sum w n < 2 ^ 64
unfolding running_sum
runs-small w zero = omega arith
runs-small w (suc n) = omega arith

check-small : (rule : Rule) (w : ℕ → ℕ) → sum_by rule w < 2 ^ 64
unfolding sum_by
check-small Plain w = sum-small w 63
check-small Running w = runs-small w 63

-- a block that was written has its words, and its check is right
pub block_read : (rule : Rule) (w : ℕ → ℕ) (k : ℕ) (r : List ℕ) → k < 63 → word (block_bytes rule w ++ r) k ≡ word_from (bytes (w k)) 0
unfolding block_bytes
block_read rule w k r l = rw append_assoc (row_read w 63 k (bytes (sum_by rule w) ++ r) l)

pub block-word : (rule : Rule) (w : ℕ → ℕ) (k : ℕ) (r : List ℕ) → k < 63 → w k < 2 ^ 64 → word (block_bytes rule w ++ r) k ≡ w k
block-word rule w k r l h = block_read rule w k r l ∙ word_bytes (w k) h

pub block-check : (rule : Rule) (w : ℕ → ℕ) (r : List ℕ) → word (block_bytes rule w ++ r) 63 ≡ sum_by rule w
unfolding block_bytes word
block-check rule w r =
    rw append_assoc (word-behind (row_to (λ i. bytes (w i)) 63) (bytes (sum_by rule w) ++ r) 504 (length_words w 63)
    ∙ word-front (sum_by rule w) r ∙ word_bytes (sum_by rule w) (check-small rule w))

-- equal words have equal checks
plain-same : (w v : ℕ → ℕ) → ((k : ℕ) → k < 63 → w k ≡ v k) → (n : ℕ) → n ≤ 63 → check_sum w n ≡ check_sum v n
unfolding check_sum
plain-same w v same zero l = refl
plain-same w v same (suc n) l = rw (plain-same w v same n (omega arith), same n (omega arith))

runs_same : (w v : ℕ → ℕ) → ((k : ℕ) → k < 63 → w k ≡ v k) → (n : ℕ) → n ≤ 63 → running_sum w n ≡ running_sum v n
unfolding running_sum
runs_same w v same zero l = refl
runs_same w v same (suc n) l = rw (runs_same w v same n (omega arith), plain-same w v same (suc n) l)

pub sum_same : (rule : Rule) (w v : ℕ → ℕ) → ((k : ℕ) → k < 63 → w k ≡ v k) → sum_by rule w ≡ sum_by rule v
unfolding sum_by
sum_same Plain w v same = plain-same w v same 63 (omega arith)
sum_same Running w v same = runs_same w v same 63 (omega arith)

-- what a slice holds once bytes are written: they fit, or the slice stays as it was
pub stored-fits : (l bs : List ℕ) (from : ℕ) {n : ℕ} → length bs ≡ n → from + n ≤ length l → stored l from bs ≡ put l from bs
unfolding stored
stored-fits l bs from {n} e h = let k : from + length bs ≤ length l = omega arith in rw (le-leb (from + length bs) (length l) k)

pub stored_short : (l bs : List ℕ) (from : ℕ) {n : ℕ} → length bs ≡ n → length l < from + n → stored l from bs ≡ l
unfolding stored
stored_short l bs from {n} e h = let k : length l < from + length bs = omega arith in rw (lt-leb (from + length bs) (length l) k)

-- a block at the front
pub stored-front : (rule : Rule) (w : ℕ → ℕ) (l : List ℕ) → 512 ≤ length l → stored l 0 (block_bytes rule w) ≡ block_bytes rule w ++ drop 512 l
stored-front rule w l h =
    let e : 0 + length (block_bytes rule w) ≡ 512 = omega (arith, length_block-bytes rule w) in
    stored-fits l (block_bytes rule w) 0 (length_block-bytes rule w) (omega arith) ∙ rw e
