-- Questions 1 to 9, 35, 37 and 38 in the order of docs/FORMAT.md, each put to all blocks before the next. In a test of one block w k is its word k; over a
-- whole book w j k is word k of block j. Assumes nothing.
use Rattle.std.specs.Prelude.{ℕ, ◌+◌, ◌-◌, ◌/◌, ◌%◌, Bool, true, cond, not, ◌&&◌, ◌||◌, List, length, ◌==◌, nat_le, nat_lt, Float}
use Rattle.std.specs.Float.Ieee.{lt, le, eq}
use Rattle.blocks.specs.Words.{word, check_right}
use Rattle.blocks.specs.declared.Rule.{Rule}
use Rattle.blocks.specs.declared.Rule.TheVariants.{Plain, Running}
use Rattle.floats.specs.Arithmetic.{0f}
use Rattle.floats.specs.Small.{is_finite, positive, float}
use Rattle.floats.specs.Fold.{all_to}
use Rattle.floats.specs.Vector.{places}
use Rattle.floats.specs.Outcome.{Out, ok, need}
use Rattle.book.specs.Places.{words, pair_count, block_count, row_from}
use Rattle.book.specs.declared.Model.{Model}
use Rattle.book.specs.declared.Model.TheVariants.{Nrtl, Wilson}
use Rattle.book.specs.declared.Head.{Head}

-- words f to f + n - 1 are finite floats
unfoldable pub floats_finite : (ℕ → ℕ) → ℕ → ℕ → Bool
floats_finite w f n = all_to (λ k. is_finite (float w (f + k))) n

-- 38. block 0 of kind 1 has version 1 to 3
unfoldable pub version_right : (ℕ → ℕ) → Bool
version_right w = not (w 0 == 1) || (nat_lt 0 (w 1) && nat_le (w 1) 3)

-- 3. block 0: kind 1, n 1 to 8
unfoldable pub head_right : (ℕ → ℕ) → Bool
head_right w = w 0 == 1 && nat_lt 0 (w 2) && nat_le (w 2) 8

-- 37. word 3 of block 0: 0, NRTL; or, from version 2 on, 1, Wilson
unfoldable pub model_right : (ℕ → ℕ) → Bool
model_right w = w 3 == 0 || (w 3 == 1 && nat_le 2 (w 1))

-- the model, from the words of block 0
unfoldable pub model_in : (ℕ → ℕ) → Model
model_in w = cond (w 3 == 1) Wilson Nrtl

-- from the book's bytes
abbrev pub model_of : List ℕ → Model
model_of s = model_in (words s 0)

-- 4. a solvent's block: kind 2, its own index, CAS not 0, term counts 1 to 8
unfoldable pub solvent_right : (ℕ → ℕ) → ℕ → Bool
solvent_right w i = w 0 == 2 && w 1 == i && not (w 2 == 0) && nat_lt 0 (w 7) && nat_le (w 7) 8 && nat_lt 0 (w 28) && nat_le (w 28) 8

-- 5. a record from word f on (t_r, reducing value, low, high, term count, eight n, eight exponents): 0 < low ≤ high < t_r, the reducing value positive
unfoldable pub range_right : (ℕ → ℕ) → ℕ → Bool
range_right w f =
    lt 0f (float w (f + 2)) && le (float w (f + 2)) (float w (f + 3)) && lt (float w (f + 3)) (float w f) && lt 0f (float w (f + 1))

-- its term count, at most eight as question 4 has it
abbrev pub term_count : (ℕ → ℕ) → ℕ → ℕ
term_count w f = places (w (f + 4))

-- the floats used are finite: t_r, reducing value, low, high, and of the n and the exponents as many as there are terms
unfoldable pub record_right : (ℕ → ℕ) → ℕ → Bool
record_right w f =
    floats_finite w f 4 && floats_finite w (f + 5) (term_count w f) && floats_finite w (f + 13) (term_count w f) && range_right w f

-- vapor pressure and liquid density
unfoldable pub records_right : (ℕ → ℕ) → Bool
records_right w = record_right w 3 && record_right w 24

-- version 2 on: every solvent has a molar mass
abbrev pub has_masses : ℕ → Bool
has_masses version = nat_le 2 version

-- solvent i's, in kg/mol: word 45 of its block
abbrev pub molar_mass : (ℕ → ℕ → ℕ) → ℕ → Float
molar_mass w i = float (w (i + 1)) 45

-- 35. the molar masses, where there are any, are finite and positive
unfoldable pub masses_right : (ℕ → ℕ → ℕ) → Head → Bool
masses_right w h = not (has_masses h.version) || all_to (λ i. positive (molar_mass w i)) h.n

-- 6. no solvent before solvent i has its CAS number
unfoldable pub cas_new : (ℕ → ℕ → ℕ) → ℕ → Bool
cas_new w i = all_to (λ j. not (w (j + 1) 2 == w (i + 1) 2)) i

-- 7. a pair's block: kind 3, due i and j, flags 0 or 1
unfoldable pub pair_right : (ℕ → ℕ) → ℕ → ℕ → Bool
pair_right w i j = w 0 == 3 && w 1 == i && w 2 == j && nat_le (w 15) 1 && nat_le (w 18) 1

-- `count` pairs (i, i + 1), (i, i + 2) and on, from block `from`
unfoldable pub row_right : (ℕ → ℕ → ℕ) → ℕ → ℕ → ℕ → Bool
row_right w i from count = all_to (λ d. pair_right (w (from + d)) i (i + 1 + d)) count

-- 8. a pair's parameters are finite (NRTL: tau_ij, tau_ji, alpha_ij and alpha_ji; Wilson: a_ij, b_ij, a_ji and b_ji), and the bounds of a flagged interval
unfoldable pub parameters_finite : Model → (ℕ → ℕ) → Bool
parameters_finite Nrtl w = floats_finite w 3 12
parameters_finite Wilson w = floats_finite w 3 4

unfoldable pub bounds_finite : (ℕ → ℕ) → Bool
bounds_finite w = cond (w 15 == 0) true (floats_finite w 16 2)

unfoldable pub pair_finite : Model → (ℕ → ℕ) → Bool
pair_finite m w = parameters_finite m w && bounds_finite w

-- 9. alpha_ij and alpha_ji are equal as floats; Wilson has none
unfoldable pub alphas_equal : Model → (ℕ → ℕ) → Bool
alphas_equal Nrtl w = eq (float w 11) (float w 13) && eq (float w 12) (float w 14)
alphas_equal Wilson w = true

-- what block 0 says of the book
unfoldable pub head_in : (ℕ → ℕ) → Head
head_in w = record { n = w 2; version = w 1; model = model_in w }

-- questions 7 to 9, on the pairs
unfoldable pub pairs_of : (ℕ → ℕ → ℕ) → Head → Out Head
pairs_of w h =
    need (all_to (λ i. row_right w i (row_from h.n i) (h.n - i - 1)) h.n) 7
    (need (all_to (λ d. pair_finite h.model (w (1 + h.n + d))) (pair_count h.n)) 8
    (need (all_to (λ d. alphas_equal h.model (w (1 + h.n + d))) (pair_count h.n)) 9 (ok h)))

-- questions 4, 5, 35 and 6, on the solvents, then those on the pairs
unfoldable pub solvents_of : (ℕ → ℕ → ℕ) → Head → Out Head
solvents_of w h =
    need (all_to (λ i. solvent_right (w (i + 1)) i) h.n) 4
    (need (all_to (λ i. records_right (w (i + 1))) h.n) 5
    (need (masses_right w h) 35
    (need (all_to (cas_new w) h.n) 6 (pairs_of w h))))

-- questions 3, on block 0 and the number of blocks, and 37, then the others
unfoldable pub head_of : (ℕ → ℕ → ℕ) → ℕ → Out Head
head_of w count =
    need (head_right (w 0)) 3
    (need (count == block_count (w 0 2)) 3
    (need (model_right (w 0)) 37 (solvents_of w (head_in (w 0)))))

-- 1. whole blocks, at least one
abbrev pub whole_blocks : List ℕ → Bool
whole_blocks s = length s % 512 == 0 && nat_lt 0 (length s)

-- by which rule the blocks of a call are checked, from the words of block 0: by running sums in version 3
unfoldable pub rule_in : (ℕ → ℕ) → Rule
rule_in w = cond (w 0 == 1 && w 1 == 3) Running Plain

-- from the book's bytes: plainly where 1 is answered no
unfoldable pub rule_of : List ℕ → Rule
rule_of s = cond (whole_blocks s) (rule_in (words s 0)) Plain

-- questions 1, 38 and 2, then the others: what block 0 says, or the number of the first question that is answered no
unfoldable pub book_of : List ℕ → Out Head
book_of s =
    need (length s % 512 == 0) 1
    (need (nat_lt 0 (length s)) 1
    (need (version_right (words s 0)) 38
    (need (all_to (λ k. check_right (rule_of s) (words s k)) (length s / 512)) 2 (head_of (words s) (length s / 512)))))

-- ---- a pair's block offered for a book with head h: exactly one whole block (1), its check by the book's rule (2), any i < j below n (7), then 8 and 9
abbrev pub offered_right : ℕ → (ℕ → ℕ) → Bool
offered_right n w = nat_lt (w 1) (w 2) && nat_lt (w 2) n && pair_right w (w 1) (w 2)

unfoldable pub offered_of : Rule → Head → List ℕ → Out Head
offered_of rule h offered =
    need (length offered == 512) 1
    (need (check_right rule (word offered)) 2
    (need (offered_right h.n (word offered)) 7
    (need (pair_finite h.model (word offered)) 8
    (need (alphas_equal h.model (word offered)) 9 (ok h)))))
