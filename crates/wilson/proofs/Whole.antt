-- ln γ from the array of sums is ln γ of the table. Assumes nothing.
use Prim.Native.Nat.{ℕ, ◌<◌, ◌≤◌}
use mathlib.Core.Path.{◌≡◌, refl, ◌∙◌, ap}
use mathlib.Core.List.{List}
use lib.ListN.{replicate, length-replicate}
use lib.Ieee.{Float}
use Rattle.floats.specs.Arithmetic.{0f}
use Rattle.floats.specs.Vector.{zeros8}
use Rattle.jet.specs.declared.Jet.{Jet}
use Rattle.jet.specs.Jets.{scale_j, div_j, neg_j}
use Rattle.jet.specs.Planes.{twos, first_two}
use Rattle.jet.proofs.Sums.{sum_jet_cong}
use Rattle.excess.specs.State.{state_from, finite_state}
use Rattle.excess.specs.Steps.{s_in, r_in, SumsTo, GammasTo}
use Rattle.excess.proofs.Steps.{s_in_lem, r_in_lem}
use Rattle.excess.proofs.Ways.{state-filled}
use Rattle.wilson.specs.Sums.{quotients, wilson_from, gibbs_of_ln}
use Rattle.wilson.specs.On.{s_on, ln_s_on, ln_gamma_on, reduced_on}

module _ (m : List Float) (x : ℕ → Float) (n : ℕ) (t : Float) (n8 : n ≤ 8) {sums : List Float} {total : Jet} {lg sl : List Float}
    (ps : SumsTo (s_on m x n) (ln_s_on m x n) x n total (replicate 32 0f) sums)
    (pl : GammasTo (wilson_from (twos m 0) (s_in sums) (r_in sums) x n) n zeros8 zeros8 lg sl) where
  quotients_are : (i : ℕ) → quotients (twos m 0) (s_in sums) x n i ≡ quotients (twos m 0) (λ k. first_two (s_on m x n k)) x n i
  unfolding quotients
  quotients_are i =
      sum_jet_cong n refl (λ k l. ap (div_j (scale_j (twos m 0 k i) (x k)))
      (s_in_lem (s_on m x n) (ln_s_on m x n) n n8 (replicate 32 0f) sums (length-replicate 32 0f) ps.kept k l))

  same : (i : ℕ) → i < n → wilson_from (twos m 0) (s_in sums) (r_in sums) x n i ≡ ln_gamma_on m x n i
  unfolding wilson_from
  same i l = rw (r_in_lem (s_on m x n) (ln_s_on m x n) n n8 (replicate 32 0f) sums (length-replicate 32 0f) ps.kept i l, quotients_are i)

  pub state_is : {g : Jet} → g ≡ neg_j total → state_from (reduced_on m x n) (ln_gamma_on m x n) n t ≡ finite_state g n t lg sl
  unfolding gibbs_of_ln
  state_is p = state-filled (reduced_on m x n) (ln_gamma_on m x n) n t _ n8 same (p ∙ ap neg_j ps.total) pl
