-- The laws of raised limits refute the leaky definitions of crates/limits/specs/Leaks.antt. Each law is stated of any definition in the place of the core's;
-- the core's has it, and the leaky one has it not, by one computed case. Assumes nothing.
use Prim.Native.Nat.{ℕ, ◌≤◌}
use mathlib.Core.Path.{◌≡◌, sym, ap}
use mathlib.Core.Logic.{inl, inr}
use mathlib.Core.List.{[], ◌∷◌}
use native.Mathlib.Omega.{arith}
use lib.Ieee.{Float, of_bits, add, sub, mul, div, neg, lt, le, eq, is_nan, of_int, to_signed, size}
use Rattle.floats.specs.Arithmetic.{#, 0f, ½, 1f, 2f}
use Rattle.floats.specs.Small.{is_finite}
use Rattle.floats.specs.Fold.{fold_to, all_to}
use Rattle.floats.specs.Vector.{at, fill}
use Rattle.floats.specs.Outcome.{Out, ok, no, bind, need, choose}
use Rattle.floats.proofs.Outcomes.{refused}
use Rattle.thermo_types.specs.Composition.{sums_to_one}
use Rattle.thermo_types.specs.declared.ActivityOptions.{ActivityOptions}
use Rattle.rachford_rice.specs.Rachford.{Solution, residual_of, slope_of, turn_of, k_max, k_min, validate, solution_at, negative}
use Rattle.saturation_temperature.specs.Search.{Point, Root, step_of, collapsed, search_from, solve_temperature}
use Rattle.limits.specs.Kept.{Kept, Spent, options_with}
use Rattle.limits.specs.Leaks.{negative_by, reporting, lenient, sharing}
use Rattle.limits.proofs.Kept.{kept_refl}
use Rattle.limits.proofs.Rice.{kept-negative}
use Rattle.limits.proofs.Boiling.{kept-solve}

-- two answers of which the second is kept have the same count
count : {A : Type 0} → (A → ℕ) → Out A → ℕ
count f (ok a) = f a
count f (no e) = 0

same_count : {A : Type 0} (f : A → ℕ) {a b : A} → Kept Spent (ok a) (ok b) → f a ≡ f b
unfolding count
same_count f h = elim h.same [
  | inl r ↦ absurd (refused (sym r.1))
  | inr e ↦ ap (count f) e
]

-- ---- Rachford-Rice
abbrev pub RiceLaw : ((ℕ → Float) → (ℕ → Float) → ℕ → ℕ → Out Solution) → Type 0
RiceLaw split = (z k : ℕ → Float) (n M M' : ℕ) → M ≤ M' → Kept Spent (split z k n M) (split z k n M')

pub rice_law : RiceLaw negative
rice_law = kept-negative

-- fractions 0.5 and 0.5, K 2 and 0.5: one turn, reported as 2 where 2 are allowed
pub reporting_leaks : RiceLaw (λ z k n. negative_by z k n (reporting z k n)) → ⊥
unfolding negative_by reporting of_bits add sub mul div neg lt le eq is_nan size is_finite fold_to all_to fill need choose sums_to_one residual_of slope_of k_max k_min
    validate turn_of solution_at
reporting_leaks law =
    let e : ◌≡◌ {A = ℕ} 1 2 = same_count (λ (s : Solution). s.iterations) (law (at (½ ∷ ½ ∷ [])) (at (2f ∷ ½ ∷ [])) 2 1 2 (omega arith)) in
    omega arith

-- K 4 and 0.5: not converged in two turns, and given as the value after one where one is allowed
pub lenient_leaks : RiceLaw (λ z k n. negative_by z k n (lenient z k n)) → ⊥
unfolding negative_by lenient of_bits add sub mul div neg lt le eq is_nan size is_finite fold_to all_to fill need choose sums_to_one residual_of slope_of k_max k_min
    validate turn_of solution_at
lenient_leaks law =
    let e : ◌≡◌ {A = ℕ} 1 2 = same_count (λ (s : Solution). s.iterations) (law (at (½ ∷ ½ ∷ [])) (at (# 0x4010000000000000 ∷ ½ ∷ [])) 2 1 2 (omega arith)) in
    omega arith

-- ---- the search for a temperature
abbrev pub SearchLaw : ((Float → Out Point) → ActivityOptions → Out Root) → Type 0
SearchLaw solve = (f : Float → Out Point) (o : ActivityOptions) (M N N' : ℕ) → N ≤ N' → Kept Spent (solve f (options_with o M N)) (solve f (options_with o M N'))

pub search_law : SearchLaw solve_temperature
search_law f o M N N' h = kept-solve f f (λ t. kept_refl) o M M N N' h

-- f(T) = T between -3 and 2, tolerance 1: one turn where one is allowed, three within the share of four
line : Float → Out Point
line t = ok (record { value = t; slope = 0f })

options : ActivityOptions
options = record {
  max_iterations = 1;
  tolerance = 1f;
  max_temperature_iterations = 1;
  tm_threshold = 0f;
  minimum_temperature_k = # 0xc008000000000000;
  maximum_temperature_k = 2f;
}

pub sharing_leaks : SearchLaw sharing → ⊥
unfolding sharing line options of_bits add sub mul div neg lt le eq is_nan of_int to_signed size bind need choose step_of collapsed search_from
sharing_leaks law =
    let e : ◌≡◌ {A = ℕ} 1 3 = same_count (λ (s : Root). s.iterations) (law line options 1 1 4 (omega arith)) in
    omega arith
