-- The smallest book, checked by a rule, as of a version; words 46 and 47 of its solvent's block, which aren't read, are 1 and 0. Assumes nothing.
use Prim.Native.Nat.{ℕ, ◌/◌, ◌<◌}
use mathlib.Core.Path.{◌≡◌, sym, ◌∙◌}
use mathlib.Core.Logic.{◌≢◌}
use mathlib.Core.List.{List, [], ◌∷◌, ◌++◌}
use native.Mathlib.Omega.{arith}
use lib.ListN.{length, length-append}
use Rattle.blocks.specs.declared.Rule.{Rule}
use Rattle.blocks.specs.Words.{Bytes}
use Rattle.blocks.specs.Bytes.{word_at, block_bytes}
use Rattle.blocks.proofs.Laws.{length_block-bytes}
use Rattle.blocks.proofs.Small.{append-bytes, block-bytes}
use Rattle.book.specs.Places.{words}
use Rattle.exchanges.specs.Exchanges.{Passes}

-- one term -7 θ, t_r = 600 K, from 273.16 to 450 K
abbrev correlation : ℕ → List ℕ
correlation r =
    0x4082c00000000000 ∷ r ∷ 0x4071128f5c28f5c3 ∷ 0x407c200000000000 ∷ 1
    ∷ 0xc01c000000000000 ∷ 0 ∷ 0 ∷ 0 ∷ 0 ∷ 0 ∷ 0 ∷ 0 ∷ 0x3ff0000000000000 ∷ 0 ∷ 0 ∷ 0 ∷ 0 ∷ 0 ∷ 0 ∷ 0 ∷ []

-- 4 MPa, 9000 mol/m3, 0.5 kg/mol in word 45, and 1 in word 46
abbrev solvent : List ℕ
solvent = (2 ∷ 0 ∷ 101 ∷ []) ++ correlation 0x414e848000000000 ++ correlation 0x40c1940000000000 ++ 0x3fe0000000000000 ∷ 1 ∷ []

abbrev pub smallest : Rule → ℕ → List ℕ
smallest rule version = block_bytes rule (word_at (1 ∷ version ∷ 1 ∷ [])) ++ block_bytes rule (word_at solvent)

pub smallest-bytes : (rule : Rule) (version : ℕ) → Bytes (smallest rule version)
smallest-bytes rule version =
    append-bytes _ _ (block-bytes rule (word_at (1 ∷ version ∷ 1 ∷ []))) (block-bytes rule (word_at solvent))

pub solvent-there : (rule : Rule) (version : ℕ) → 1 < length (smallest rule version) / 512
solvent-there rule version =
    let e : length (smallest rule version) / 512 ≡ 2 = rw (length-append, length_block-bytes, length_block-bytes) in
    omega (arith, e)

-- what is evaluated of it: it passes 1, 38, 2 and 3, and the two words are unequal
pub record Evaluated (rule : Rule) (version : ℕ) : Type 0 where
  pub passes : Passes version (smallest rule version)
  pub one : words (smallest rule version) 1 46 ≡ 1
  pub none : words (smallest rule version) 1 47 ≡ 0

pub two-unequal : (rule : Rule) (version : ℕ) → Evaluated rule version → words (smallest rule version) 1 46 ≢ words (smallest rule version) 1 47
two-unequal rule version v e = let z : ◌≡◌ {A = ℕ} 1 0 = sym v.one ∙ e ∙ v.none in omega arith
