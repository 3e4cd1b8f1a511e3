-- Bytes as little-endian words of 64 bits, blocks of 512 bytes, and the check sum. Assumes nothing.
use Rattle.std.specs.Prelude.{◌≡◌, ℕ, zero, suc, ◌+◌, ◌*◌, ◌%◌, ◌^◌, ◌<◌, Bool, List, take, drop, ◌==◌, slice_index}
use Rattle.blocks.specs.declared.Rule.{Rule}
use Rattle.blocks.specs.declared.Rule.TheVariants.{Plain, Running}

-- the byte at an index; past the end 0
abbrev pub byte : List ℕ → ℕ → ℕ
byte s at = slice_index s at

-- the elements are bytes, as those of every slice of u8 are
pub record Bytes (s : List ℕ) : Type 0 where
  pub small : (i : ℕ) → byte s i < 256

-- the word of eight bytes, lowest first
abbrev pub word_of : ℕ → ℕ → ℕ → ℕ → ℕ → ℕ → ℕ → ℕ → ℕ
word_of a b c d e f g h = a + b * 256 + c * 65536 + d * 16777216 + (e + f * 256 + g * 65536 + h * 16777216) * 4294967296

-- the word whose lowest byte stands at an index
abbrev pub word_from : List ℕ → ℕ → ℕ
word_from s at =
    word_of (byte s at) (byte s (at + 1)) (byte s (at + 2)) (byte s (at + 3)) (byte s (at + 4)) (byte s (at + 5)) (byte s (at + 6)) (byte s (at + 7))

-- word k
unfoldable pub word : List ℕ → ℕ → ℕ
word s k = word_from s (8 * k)

-- block k: its 512 bytes, or what there is of them before the end
unfoldable pub block : List ℕ → ℕ → List ℕ
block s k = take 512 (drop (512 * k) s)

-- the sum of w 0 to w (n - 1), modulo 2^64
unfoldable pub check_sum : (ℕ → ℕ) → ℕ → ℕ
check_sum w zero = 0
check_sum w (suc n) = (check_sum w n + w n) % 2 ^ 64

-- the sum of the running sums after w 0, w 1 and on to w (n - 1), modulo 2^64
unfoldable pub running_sum : (ℕ → ℕ) → ℕ → ℕ
running_sum w zero = 0
running_sum w (suc n) = (running_sum w n + check_sum w (suc n)) % 2 ^ 64

-- the check of a block's words 0 to 62, by a rule: plainly their sum, or the sum of their running sums
unfoldable pub sum_by : Rule → (ℕ → ℕ) → ℕ
sum_by Plain w = check_sum w 63
sum_by Running w = running_sum w 63

-- of a block's words: is word 63 the check of the others?
unfoldable pub check_right : Rule → (ℕ → ℕ) → Bool
check_right rule w = sum_by rule w == w 63

-- a reader of words, by what it may be asked for and by what it gives: words 0 to 62, those of w
abbrev pub TakesWords : (ℕ → Type 0) → Type 0
TakesWords takes = (k : ℕ) → k < 63 → takes k

abbrev pub GivesWords : (ℕ → ℕ → Type 0) → (ℕ → ℕ) → Type 0
GivesWords gives w = (k x : ℕ) → k < 63 → gives k x → x ≡ w k
