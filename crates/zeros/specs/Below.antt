-- x ⊑ y: x is a NaN, or x ≈ y. So `x ⊑ plus0` says that x is a NaN or a zero. ⊑! is the same with ≡ for ≈. Assumes nothing.
use Rattle.std.specs.Prelude.{◌≡◌, Float}
use Rattle.std.specs.Float.{nan, inf, fin}
use Rattle.zeros.specs.Same.{◌≈◌}

-- no NaN
abbrev pub Num : Float → Type 0
Num nan = ⊥
Num (inf s) = Unit {0}
Num (fin s m e) = Unit {0}

infix 50 ◌⊑◌
infix 50 ◌⊑!◌
pub record ◌⊑◌ (x y : Float) : Type 0 where
  pub at : Num x → x ≈ y

pub record ◌⊑!◌ (x y : Float) : Type 0 where
  pub at : Num x → x ≡ y
