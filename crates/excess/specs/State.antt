-- The excess state that a model's g^E / RT and ln γ make at a temperature and a composition, or a refusal (13, 15, 16, 18, 25). Assumes nothing.
use Rattle.std.specs.Prelude.{ℕ, List, Float}
use Rattle.std.specs.Float.Ieee.{neg, lt}
use Rattle.floats.specs.Arithmetic.{◌⊕◌, ◌⊖◌, ◌⊗◌, ◌⊘◌, #, 0f, 2f}
use Rattle.floats.specs.Small.{is_finite}
use Rattle.floats.specs.Vector.{at, vec}
use Rattle.floats.specs.Outcome.{Out, ok, need}
use Rattle.thermo_types.specs.Composition.{all_finite, with_fractions}
use Rattle.jet.specs.declared.Jet.{Jet}

-- ln γ and its slopes by T (1/K) in arrays of eight, +0 past n; g^E / RT; energies in J/mol, entropy and heat capacity in J/(mol K)
pub record Excess : Type 0 where
  pub ln_gamma : List Float
  pub slopes : List Float
  pub reduced : Float
  pub gibbs : Float
  pub enthalpy : Float
  pub entropy : Float
  pub heat_capacity : Float

-- the molar gas constant R, 8.31446261815324 J/(mol K)
abbrev pub gas_r : Float
gas_r = # 0x4020a1013e8990be

-- ---- from e = g^E / RT

-- g^E = R T e
unfoldable pub gibbs_of : Jet → Float → Float
gibbs_of e t = gas_r ⊗ t ⊗ e.v

-- h^E = - R T² e'
unfoldable pub enthalpy_of : Jet → Float → Float
enthalpy_of e t = neg gas_r ⊗ t ⊗ t ⊗ e.d

-- c_p^E = - R (2 T e' + T² e'')
unfoldable pub heat_capacity_of : Jet → Float → Float
heat_capacity_of e t = neg gas_r ⊗ (2f ⊗ t ⊗ e.d ⊕ t ⊗ t ⊗ e.dd)

-- s^E = (h^E - g^E) / T
unfoldable pub entropy_of : Jet → Float → Float
entropy_of e t = (enthalpy_of e t ⊖ gibbs_of e t) ⊘ t

-- the state of e with these ln γ and slopes, refused (25) where an energy isn't finite
unfoldable pub state_with : Jet → Float → List Float → List Float → Out Excess
state_with e t lg sl =
    need (is_finite (gibbs_of e t)) 25
    (need (is_finite (enthalpy_of e t)) 25
    (need (is_finite (heat_capacity_of e t)) 25
    (need (is_finite (entropy_of e t)) 25
    (ok (record {
      ln_gamma = lg;
      slopes = sl;
      reduced = e.v;
      gibbs = gibbs_of e t;
      enthalpy = enthalpy_of e t;
      entropy = entropy_of e t;
      heat_capacity = heat_capacity_of e t;
    })))))

-- the same where the first n ln γ and slopes are finite (25)
unfoldable pub finite_state : Jet → ℕ → Float → List Float → List Float → Out Excess
finite_state e n t lg sl = need (all_finite (at lg) n) 25 (need (all_finite (at sl) n) 25 (state_with e t lg sl))

-- the state of e and ln γ as jets: every ln γ and every slope is finite too (25)
unfoldable pub state_from : Jet → (ℕ → Jet) → ℕ → Float → Out Excess
state_from e L n t =
    need (all_finite (λ i. (L i).v) n) 25
    (need (all_finite (λ i. (L i).d) n) 25
    (state_with e t (vec (λ i. (L i).v) n) (vec (λ i. (L i).d) n)))

-- ahead of every model: T is finite and positive (13), x are mole fractions (15, 16, 18)
unfoldable pub with_state : {A : Type 0} → Float → (ℕ → Float) → ℕ → Out A → Out A
with_state t x n next = need (is_finite t) 13 (need (lt 0f t) 13 (with_fractions x n next))
