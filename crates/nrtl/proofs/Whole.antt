-- The arrays hold S and C / S, so ln γ and g^E / RT from them are those of the table. Assumes nothing.
use Prim.Native.Nat.{ℕ, ◌<◌, ◌≤◌}
use mathlib.Core.Path.{◌≡◌, refl, ◌∙◌, ap}
use mathlib.Core.List.{List}
use native.Mathlib.Omega.{arith}
use lib.ListN.{replicate}
use lib.Ieee.{Float}
use Rattle.floats.specs.Arithmetic.{0f}
use Rattle.floats.specs.Vector.{zeros8}
use Rattle.jet.specs.declared.Jet.{Jet}
use Rattle.jet.specs.Jets.{scale_j}
use Rattle.jet.specs.Planes.{first_two}
use Rattle.jet.proofs.Sums.{sum_jet_cong}
use Rattle.excess.specs.State.{state_from, finite_state}
use Rattle.excess.specs.Steps.{GammasTo}
use Rattle.excess.proofs.Ways.{state-filled}
use Rattle.nrtl.specs.Columns.{ln_from, gibbs_from}
use Rattle.nrtl.specs.Lanes.{lanes, jet_in, two_in, evened, Cleared}
use Rattle.nrtl.specs.On.{s_on, r_on, ln_in, ln_gamma_on, reduced_on}
use Rattle.nrtl.proofs.Lanes.{two_in_lem, jet_in_lem, gammas_cleared}

module _ (m : List Float) (x : ℕ → Float) (n : ℕ) (t : Float) (n8 : n ≤ 8) {sums ratios : List Float} {ge : Jet} {lg sl lg' sl' : List Float}
    (ps : sums ≡ lanes (s_on m x n) 2 (evened n) (replicate 24 0f)) (pr : ratios ≡ lanes (r_on m x n) 3 (evened n) (replicate 24 0f))
    (pg : ge ≡ gibbs_from (jet_in ratios) x n)
    (pl : GammasTo (ln_in m sums ratios x n) (evened n) zeros8 zeros8 lg sl)
    (pv : Cleared n lg lg') (pd : Cleared n sl sl') where
  s-is : (j : ℕ) → j < n → two_in sums j ≡ first_two (s_on m x n j)
  s-is j l = two_in_lem (s_on m x n) 2 n (omega arith) n8 ps j (omega arith) l

  r-is : (j : ℕ) → j < n → two_in ratios j ≡ first_two (r_on m x n j)
  r-is j l = two_in_lem (r_on m x n) 3 n (omega arith) n8 pr j (omega arith) l

  L-is : (i : ℕ) → i < n → ln_in m sums ratios x n i ≡ ln_gamma_on m x n i
  unfolding ln_from
  L-is i l = sum_jet_cong n (r-is i l) (λ j h. rw (s-is j h, r-is j h))

  ge_is : ge ≡ reduced_on m x n
  unfolding gibbs_from
  ge_is = pg ∙ sum_jet_cong n refl (λ i l. ap (λ (j : Jet). scale_j j (x i)) (jet_in_lem (r_on m x n) 3 n (omega arith) n8 pr i (omega arith) l))

  pub state_is : state_from (reduced_on m x n) (ln_gamma_on m x n) n t ≡ finite_state ge n t lg' sl'
  state_is = state-filled (reduced_on m x n) (ln_gamma_on m x n) n t _ n8 L-is ge_is (gammas_cleared _ n n8 pl pv pd)
