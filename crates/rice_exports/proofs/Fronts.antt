-- What is stored in the first entries of a slice, with the rest of the slice behind it. Assumes nothing.
use Prim.Native.Nat.{ℕ, zero, suc, ◌+◌, ◌≤◌}
use mathlib.Core.Path.{◌≡◌, refl, sym, ap, ◌∙◌}
use mathlib.Core.List.{List, ◌++◌}
use native.Mathlib.Omega.{arith}
use lib.Ieee.{Float}
use lib.ListN.{length, take, drop, set, length-set}
use lib.Seq.{length-take-le}
use Rattle.std.proofs.lemmas.List.{set-append_left, take-append-drop}
use Rattle.floats.specs.Vector.{at, fill_from}
use Rattle.floats.specs.Outcome.{Out, ok, no}
use Rattle.floats.proofs.Fills.{fill_from_length}
use Rattle.rachford_rice.specs.declared.RachfordRice.{RachfordRice}
use Rattle.rachford_rice.specs.declared.RachfordRiceOutcome.{RachfordRiceOutcome}
use Rattle.rachford_rice.specs.declared.RachfordRiceOutcome.TheVariants.{LiquidOnly, VaporOnly, TwoPhase}
use Rattle.rice_exports.specs.Splits.{count_of, both, phases_in, split_written}

pub fill_from-front : {A : Type 0} (f : ℕ → A) (b n : ℕ) (l r : List A) → b + n ≤ length l → fill_from f b n (l ++ r) ≡ fill_from f b n l ++ r
unfolding fill_from
fill_from-front f b zero l r h = refl
fill_from-front f b (suc n) l r h = rw (fill_from-front f b n l r (omega arith)) (set-append_left _ r (b + n) (f n) (rw fill_from_length (omega arith)))

module _ (l r : List Float) (h : 19 ≤ length l) where
  both-front : (β g : Float) (m : ℕ) (x y : List Float) → both β g m x y (l ++ r) ≡ both β g m x y l ++ r
  unfolding both
  both-front β g m x y =
      let a = set l 0 β in
      let b = set a 1 g in
      let c = set b 2 (count_of m) in
      let la = length-set l 0 β in
      let lb = length-set a 1 g in
      let lc = length-set b 2 (count_of m) in
      rw (set-append_left l r 0 β (omega arith), set-append_left a r 1 g (omega arith), set-append_left b r 2 (count_of m) (omega arith), fill_from-front (at x) 3 8 c r (omega arith)) (fill_from-front (at y) 11 8 _ r (rw fill_from_length (omega arith)))

  phases-front : (o : RachfordRiceOutcome) (x y : List Float) → phases_in o x y (l ++ r) ≡ phases_in o x y l ++ r
  unfolding phases_in
  phases-front LiquidOnly x y = refl
  phases-front VaporOnly x y = refl
  phases-front (TwoPhase β g m) x y = both-front β g m x y

  pub written-front : (o : Out RachfordRice) → split_written o (l ++ r) ≡ split_written o l ++ r
  unfolding split_written
  written-front (ok a) = phases-front a.outcome a.liquid a.vapor
  written-front (no n) = refl

pub written_in_front : (o : Out RachfordRice) (l : List Float) → 19 ≤ length l → split_written o (take 19 l) ++ drop 19 l ≡ split_written o l
written_in_front o l h = sym (written-front (take 19 l) (drop 19 l) (rw length-take-le (omega arith)) o) ∙ ap (split_written o) (take-append-drop 19 l)
