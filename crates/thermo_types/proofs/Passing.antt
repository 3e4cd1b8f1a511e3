-- The tests of mole fractions come first; all three as one. Assumes nothing.
use Prim.Native.Nat.{ℕ}
use mathlib.Core.Path.{◌≡◌, refl}
use mathlib.Core.Bool.{Bool, true, false, ◌&&◌, false≢true}
use lib.Ieee.{Float}
use Rattle.floats.specs.Outcome.{Out, ok, bind, need}
use Rattle.floats.proofs.Outcomes.{need_then}
use Rattle.thermo_types.specs.Composition.{with_fractions}

pub fractions_first : {A : Type 0} (x : ℕ → Float) (n : ℕ) (o : Out A) → with_fractions x n o ≡ bind (with_fractions x n (ok (tt {0}))) (λ u. o)
unfolding with_fractions bind
fractions_first x n o = rw (need_then, need_then, need_then)

-- ---- the three tests as one
pub three : (a b c : Bool) → ((a && b) && c) ≡ true → ok tt ≡ need a 15 (need b 16 (need c 18 (ok (tt {0}))))
unfolding need
three true true true e = refl
three true true false e = absurd (false≢true e)
three true false c e = absurd (false≢true e)
three false b c e = absurd (false≢true e)
