-- The first eight entries of a slice, and the numbers of results. Assumes nothing.
use Prim.Native.Nat.{ℕ, ◌<◌}
use mathlib.Core.Path.{◌≡◌, refl, sym, ◌∙◌}
use mathlib.Core.List.{List}
use native.Mathlib.Omega.{arith}
use lib.Ieee.{Float, nan}
use lib.ListN.{length}
use lib.Seq.{ext_get_or}
use Rattle.std.specs.Prelude.{Result, Ok, Err}
use Rattle.floats.specs.Vector.{at, vec, zeros8}
use Rattle.floats.specs.Outcome.{Out, ok, no, bind}
use Rattle.floats.proofs.Fills.{vec-at, fill_length}
use Rattle.floats.proofs.Outcomes.{refused}
use Rattle.outcome.specs.declared.Refusal.{Refusal}
use Rattle.outcome.specs.Refused.{outcome_of, number_in}
use Rattle.thermo_types.specs.declared.Temperature.{Temperature}
use Rattle.thermo_types.specs.Quantities.{kelvin}
use Rattle.exports.specs.Slices.{eight_of, outcome_number, repeated}

-- ---- a list of the first eight entries of a slice, NaN past its end
pub eight_is : (s : List Float) {a : List Float} → length a ≡ 8 → ((i : ℕ) → i < 8 → at a i ≡ at s i) → a ≡ eight_of s
unfolding eight_of
eight_is s {a} long each =
    ext_get_or nan a (vec (at s) 8) (long ∙ sym (fill_length (at s) 8 zeros8)) (λ i q. each i (omega (arith, long)) ∙ sym (vec-at (at s) 8 i (omega arith) (omega (arith, long))))

-- ---- numbers
pub number_then : {A B : Type 0} (r : Result A Refusal) (b : B) → number_in r ≡ outcome_number (bind (outcome_of r) (λ _. ok b))
unfolding outcome_number bind
number_then (Ok a) b = refl
number_then (Err r) b = refl

pub number-no : {A : Type 0} (r : Result A Refusal) {m : ℕ} → outcome_of r ≡ no m → number_in r ≡ m
unfolding outcome_number
number-no (Ok a) e = absurd (refused (sym e))
number-no (Err r) e = cc

-- how often, with a temperature and without
pub repeated-ok : (o : Out Float) {t : Temperature} (count : ℕ) → ok t ≡ bind o (λ x. ok (kelvin x)) → repeated o count ≡ count
unfolding bind repeated
repeated-ok (ok x) count e = refl
repeated-ok (no r) count e = absurd (refused (sym e))

pub repeated-no : (o : Out Float) {r : ℕ} (count : ℕ) → no r ≡ bind o (λ x. ok (kelvin x)) → repeated o count ≡ 0
unfolding bind repeated
repeated-no (ok x) count e = absurd (refused e)
repeated-no (no r) count e = refl
