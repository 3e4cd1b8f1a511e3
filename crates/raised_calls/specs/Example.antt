-- A question that is refused with 27 and answered with M raised by one, from the bytes of book and question: task 9 on two solvents, fractions 0.25 and
-- 0.75, K 2 and 0.5, which takes two turns. Assumes nothing.
use Rattle.std.specs.Prelude.{ℕ, ◌≡◌, List, [], ◌∷◌}
use Rattle.floats.specs.Outcome.{Out, ok, no}
use Rattle.blocks.specs.declared.Rule.TheVariants.{Plain}
use Rattle.replies.specs.Blocks.{answer_room}
use Rattle.sheet.specs.Sheet.{sheet_of}
use Rattle.samples.specs.Sheets.{⅓, ½, ⅔, two, book2, question, answer}
use Rattle.limits.specs.Raised.{Raised, with_limits}

abbrev pub asked : List ℕ
asked = question 9 0 0 (0x3fd0000000000000 ∷ 0x3fe8000000000000 ∷ []) 1 (two ∷ ½ ∷ [])

-- with M in place of 1
abbrev pub within : ℕ → List ℕ
within M = with_limits Plain asked M 200

-- 2 iterations, residual 0, β -0.25, liquid a third and two thirds, vapor the reverse
abbrev pub outside : Out (List ℕ)
outside = ok (answer 9 3 (0 ∷ 0 ∷ 0 ∷ 0 ∷ 2 ∷ 0 ∷ 0 ∷ 0xbfd0000000000000 ∷ 0 ∷ 0 ∷ []) (⅓ ∷ ⅔ ∷ []) (⅔ ∷ ⅓ ∷ []) [])

pub record Example : Type 0 where
  pub spent : sheet_of book2 asked answer_room ≡ no 27
  pub raised : Raised Plain asked (within 2)
  pub answered : sheet_of book2 (within 2) answer_room ≡ outside
  -- and, by the theorem, at 1,000,000
  pub kept : sheet_of book2 (within 1000000) answer_room ≡ outside
