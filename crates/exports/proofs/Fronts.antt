-- What is stored in the first entries of a slice, with the rest of the slice behind it. Assumes nothing.
use Prim.Native.Nat.{ℕ, ◌+◌, ◌≤◌, ◌<◌}
use mathlib.Core.Path.{◌≡◌, refl, sym, ap, ◌∙◌}
use mathlib.Core.List.{List, ◌++◌}
use native.Mathlib.Omega.{arith}
use lib.Ieee.{Float}
use lib.ListN.{length, take, drop, set, length-set}
use lib.Seq.{length-take-le}
use Rattle.std.proofs.lemmas.List.{set-append_left, take-append-drop}
use Rattle.floats.specs.Vector.{at, fill_from}
use Rattle.floats.specs.Outcome.{Out, ok, no}
use Rattle.floats.proofs.Fills.{fill_from_length}
use Rattle.excess.specs.declared.Energies.{Energies}
use Rattle.thermo_models.specs.declared.Assessment.{Assessment}
use Rattle.rice_exports.proofs.Fronts.{fill_from-front}
use Rattle.exports.specs.Models.{Assessed, status_float, flag_float, energies_stored, excess_written, ExcessGives}

-- m is l with r behind it, and so it stays with one entry more
abbrev Fronts : (l r m : List Float) → Type 0
Fronts l r m = (23 ≤ length l) × (m ≡ l ++ r)

entry : (l r m : List Float) (i : ℕ) (v : Float) → i < 23 → Fronts l r m → Fronts (set l i v) r (set m i v)
entry l r m i v k g = (rw length-set g.0, rw g.1 (set-append_left l r i v (omega (arith, g.0))))

row : (l r m : List Float) (f : ℕ → Float) (b n : ℕ) → b + n ≤ 23 → Fronts l r m → Fronts (fill_from f b n l) r (fill_from f b n m)
row l r m f b n k g = (rw fill_from_length g.0, rw g.1 (fill_from-front f b n l r (omega (arith, g.0))))

energies-front : (e : Energies) (a : Assessment) (l r m : List Float) → Fronts l r m → energies_stored e a m ≡ energies_stored e a l ++ r
unfolding energies_stored
energies-front e a l r m g =
    let s = entry _ r _ 18 e.enthalpy (omega arith) (entry _ r _ 17 e.gibbs (omega arith) (entry l r m 16 e.reduced (omega arith) g)) in
    let t = entry _ r _ 21 (status_float a.status) (omega arith) (entry _ r _ 20 e.heat_capacity (omega arith) (entry _ r _ 19 e.entropy (omega arith) s)) in
    (entry _ r _ 22 (flag_float a.inferred) (omega arith) t).1

written-front : (o : Out Assessed) (l r : List Float) → 23 ≤ length l → excess_written o (l ++ r) ≡ excess_written o l ++ r
unfolding excess_written
written-front (ok s) l r h = energies-front _ _ _ r _ (row _ r _ (at s.excess.slopes) 8 8 (omega arith) (row l r _ (at s.excess.ln_gamma) 0 8 (omega arith) (h, refl)))
written-front (no n) l r h = refl

pub excess_in_front : (o : Out Assessed) {n : ℕ} (l : List Float) {new : List Float} → 23 ≤ length l → ExcessGives o n (take 23 l) new → ExcessGives o n l (new ++ drop 23 l)
excess_in_front o l h g = record {
  number = g.number;
  floats = rw g.floats (sym (written-front o (take 23 l) (drop 23 l) (rw length-take-le (omega arith))) ∙ ap (excess_written o) (take-append-drop 23 l));
}
