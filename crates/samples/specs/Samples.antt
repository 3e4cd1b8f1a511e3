-- The samples (a) to (v) of docs/FORMAT.md as one list: (a) to (c) on the helper numbers, (d) to (v) on the whole call, from the bytes of book and question to every byte of
-- the answer, in a slice with room for any answer. Assumes nothing.
use Rattle.std.specs.Prelude.{ℕ, ◌≡◌, List, [], ◌∷◌}
use Rattle.floats.specs.Arithmetic.{#, 0f, 1f, ∞}
use Rattle.floats.specs.Outcome.{Out, ok, no}
use Rattle.numerics.specs.Numerics.{exp_of, ln_of}
use Rattle.blocks.specs.declared.Rule.{Rule}
use Rattle.blocks.specs.declared.Rule.TheVariants.{Plain, Running}
use Rattle.replies.specs.Blocks.{answer_room}
use Rattle.sheet.specs.Sheet.{sheet_of, reply_to}
use Rattle.samples.specs.Sheets.{⅓, ½, ⅔, one, two, -zero, 300K, 350K, 100kPa, block_of, book1, book2, wide, book2-weighed, book1_of, wilson1, wilson2}
use Rattle.samples.specs.Sheets.{question_by, question, by_mass, answer_by, answer}

-- tasks 8 and 9 with two solvents and M = 200: fractions and K
abbrev pub split_in : List ℕ → ℕ → List ℕ → List ℕ → Out (List ℕ)
split_in book task x k = sheet_of book (question task 0 0 x 200 k) answer_room

abbrev pub split : ℕ → List ℕ → List ℕ → Out (List ℕ)
split = split_in book2

-- both phases: 1 iteration, residual 0, β 0.5, liquid a third and two thirds, vapor the reverse
abbrev pub halves : Out (List ℕ)
halves = ok (answer 8 3 (0 ∷ 0 ∷ 0 ∷ 0 ∷ 1 ∷ 0 ∷ 0 ∷ ½ ∷ 0 ∷ 0 ∷ []) (⅓ ∷ ⅔ ∷ []) (⅔ ∷ ⅓ ∷ []) [])

-- a single phase: word 3 alone
abbrev pub one_phase : ℕ → Out (List ℕ)
one_phase outcome = ok (answer 8 outcome [] [] [] [])

-- task 1 at 300 K with ln γ 0: slopes and energies are 0 too, three of them -0
abbrev pub ideal_by : Rule → Out (List ℕ)
ideal_by rule = ok (answer_by rule 1 0 (300K ∷ 0 ∷ 0 ∷ 0 ∷ 0 ∷ 0 ∷ 0 ∷ 0 ∷ 0 ∷ 0 ∷ []) (0 ∷ 0 ∷ []) (0 ∷ 0 ∷ []) (0 ∷ 0 ∷ -zero ∷ -zero ∷ -zero ∷ 0 ∷ 0 ∷ 0 ∷ []))

abbrev pub ideal : Out (List ℕ)
ideal = ideal_by Plain

-- the same of Wilson's model, with -0 in g^E / RT and g^E
abbrev pub ideal_wilson : Out (List ℕ)
ideal_wilson = ok (answer 1 0 (300K ∷ 0 ∷ 0 ∷ 0 ∷ 0 ∷ 0 ∷ 0 ∷ 0 ∷ 0 ∷ 0 ∷ []) (0 ∷ 0 ∷ []) (0 ∷ 0 ∷ []) (-zero ∷ -zero ∷ 0 ∷ 0 ∷ 0 ∷ 0 ∷ 0 ∷ 0 ∷ []))

-- task 1 with one solvent at 300 K, the question's check by a rule
abbrev pub pure : Rule → List ℕ
pure rule = question_by rule 1 300K 0 (one ∷ []) 200 []

pub record Samples : Type 0 where
  -- (a) exp 0 = 1
  pub a : exp_of 0f ≡ 1f
  -- (b) exp 710 = +infinity
  pub b : exp_of (# 0x4086300000000000) ≡ ∞
  -- (c) ln 1 = 0
  pub c : ln_of 1f ≡ 0f
  -- (d) task 8, z 0.5 0.5, K 2 0.5: both
  pub d : split 8 (½ ∷ ½ ∷ []) (two ∷ ½ ∷ []) ≡ halves
  -- (e) K 0.5 0.5: liquid
  pub e : split 8 (½ ∷ ½ ∷ []) (½ ∷ ½ ∷ []) ≡ one_phase 1
  -- (f) K 1 1: liquid
  pub f : split 8 (½ ∷ ½ ∷ []) (one ∷ one ∷ []) ≡ one_phase 1
  -- (g) K 2 2: vapor
  pub g : split 8 (½ ∷ ½ ∷ []) (two ∷ two ∷ []) ≡ one_phase 2
  -- (h) task 9, K 2 2: 28
  pub h : split 9 (½ ∷ ½ ∷ []) (two ∷ two ∷ []) ≡ no 28
  -- (i) task 1, one solvent, fraction 1, 300 K: ln γ 0
  pub i : sheet_of book1 (pure Plain) answer_room ≡ ideal
  -- (j) task 1, 300 K, τ 0, α 0.3, x 0.5 0.5: both ln γ 0
  pub j : sheet_of book2 (question 1 300K 0 (½ ∷ ½ ∷ []) 200 []) answer_room ≡ ideal
  -- (k) as (d) with fractions 0.5 and 0.5000000002: 18
  pub k : split 8 (½ ∷ 0x3fe00000001b7ce0 ∷ []) (two ∷ ½ ∷ []) ≡ no 18
  -- (l) task 7, M 0, all before it right: 20
  pub l : sheet_of book2 (question 7 350K 100kPa (½ ∷ ½ ∷ []) 0 []) answer_room ≡ no 20
  -- (m) task 2, 273.15 K, all before it right, the book's ranges too: 22
  pub m : sheet_of wide (question 2 0x4071126666666666 0 (½ ∷ ½ ∷ []) 200 []) answer_room ≡ no 22
  -- (n) as (d) by mass, both molar masses 0.5 kg/mol: the same answer
  pub n : split_in (book2-weighed ½ ½) 8 (½ ∷ ½ ∷ []) (by_mass (two ∷ ½ ∷ [])) ≡ halves
  -- (o) the same question to a book of version 1: 36
  pub o : split 8 (½ ∷ ½ ∷ []) (by_mass (two ∷ ½ ∷ [])) ≡ no 36
  -- (p) as (d), a question in moles, one molar mass 0: 35
  pub p : split_in (book2-weighed ½ 0) 8 (½ ∷ ½ ∷ []) (two ∷ ½ ∷ []) ≡ no 35
  -- (q) as (i), the book of version 3 and the question with running sums: ln γ 0, the answer with running sums
  pub q : sheet_of (book1_of Running 3) (pure Running) answer_room ≡ ideal_by Running
  -- (r) the same book, the question summed the plain way: 11
  pub r : sheet_of (book1_of Running 3) (pure Plain) answer_room ≡ no 11
  -- (s) version 4: 38, and the refusal's block is summed the plain way
  pub s : sheet_of (book1_of Plain 4) (pure Plain) answer_room ≡ no 38
  pub s-block : reply_to (book1_of Plain 4) (pure Plain) ≡ block_of (9 ∷ 0 ∷ 38 ∷ [])
  -- (t) as (i), Wilson: ln γ 0
  pub t : sheet_of (wilson1 2) (pure Plain) answer_room ≡ ideal_wilson
  -- (u) as (j), Wilson, a and b 0: both ln γ 0
  pub u : sheet_of (wilson2 2) (question 1 300K 0 (½ ∷ ½ ∷ []) 200 []) answer_room ≡ ideal_wilson
  -- (v) Wilson in version 1: 37, and the refusal's block has no task
  pub v : sheet_of (wilson1 1) (pure Plain) answer_room ≡ no 37
  pub v-block : reply_to (wilson1 1) (pure Plain) ≡ block_of (9 ∷ 0 ∷ 37 ∷ [])
