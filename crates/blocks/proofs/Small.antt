-- Words of bytes fit 64 bits, and what is written is bytes. Assumes nothing.
use Rattle.std.proofs.Common.{ℕ, zero, suc, ◌+◌, ◌*◌, ◌^◌, ◌<◌, ◌≤◌, Bool, true, false, not, T, ltb, List, [], ◌∷◌, ◌++◌, length, take, drop, arith, ltb→lt, nltb→le, length-take, get_or-drop, get_or-take}
use lib.ListN.{get_or-eq_default}
use Rattle.blocks.specs.Words.{byte, Bytes, word, block, sum_by}
use Rattle.blocks.specs.Bytes.{bytes, row_to, block_bytes}
use Rattle.blocks.specs.declared.Rule.{Rule}

-- words that fit 64 bits, as those of bytes do
pub record Small (w : ℕ → ℕ) : Type 0 where
  pub fits : (k : ℕ) → w k < 2 ^ 64

pub word_small : (s : List ℕ) → Bytes s → Small (word s)
unfolding word
word_small s h = record {
  fits = λ k. let b = h.small in omega (arith, b (8 * k), b (8 * k + 1), b (8 * k + 2), b (8 * k + 3), b (8 * k + 4), b (8 * k + 5), b (8 * k + 6), b (8 * k + 7));
}

block-part : (s : List ℕ) → Bytes s → (j : ℕ) → Bytes (block s j)
unfolding block
block-part s h j = record { small = λ i. go i (ltb i 512) (ltb→lt i 512) (nltb→le i 512) }
  where
    go : (i : ℕ) (b : Bool) → (T b → i < 512) → (T (not b) → 512 ≤ i) → byte (take 512 (drop (512 * j) s)) i < 256
    go i true f g = rw (get_or-take 512 (drop (512 * j) s) i 0 (f tt), get_or-drop) (h.small (512 * j + i))
    go i false f g =
        let l : length (take 512 (drop (512 * j) s)) ≤ i = simp length-take (omega (arith, g tt)) in
        rw (get_or-eq_default (take 512 (drop (512 * j) s)) 0 l) (omega arith)

pub words_small : (s : List ℕ) → Bytes s → (j : ℕ) → Small (word (block s j))
words_small s h j = word_small (block s j) (block-part s h j)

-- what is written is bytes
none-bytes : Bytes []
none-bytes = record { small = λ i. omega arith }

cons_bytes : (x : ℕ) (s : List ℕ) → x < 256 → Bytes s → Bytes (x ∷ s)
cons_bytes x s l h = record { small = go }
  where
    go : (i : ℕ) → byte (x ∷ s) i < 256
    go zero = l
    go (suc i) = h.small i

pub append-bytes : (s t : List ℕ) → Bytes s → Bytes t → Bytes (s ++ t)
append-bytes [] t h g = g
append-bytes (x ∷ s) t h g = cons_bytes x (s ++ t) (h.small 0) (append-bytes s t (record { small = λ i. h.small (suc i) }) g)

pub row-bytes : (f : ℕ → List ℕ) (n : ℕ) → ((k : ℕ) → Bytes (f k)) → Bytes (row_to f n)
unfolding row_to
row-bytes f zero h = none-bytes
row-bytes f (suc n) h = append-bytes (row_to f n) (f n) (row-bytes f n h) (h n)

of_word : (w : ℕ) → Bytes (bytes w)
unfolding bytes
of_word w =
    cons_bytes _ _ (omega arith) (cons_bytes _ _ (omega arith) (cons_bytes _ _ (omega arith) (cons_bytes _ _ (omega arith)
    (cons_bytes _ _ (omega arith) (cons_bytes _ _ (omega arith) (cons_bytes _ _ (omega arith) (cons_bytes _ _ (omega arith) none-bytes)))))))

pub block-bytes : (rule : Rule) (w : ℕ → ℕ) → Bytes (block_bytes rule w)
unfolding block_bytes
block-bytes rule w = append-bytes _ _ (row-bytes (λ k. bytes (w k)) 63 (λ k. of_word (w k))) (of_word (sum_by rule w))
