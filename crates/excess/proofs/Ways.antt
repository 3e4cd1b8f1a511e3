-- What a model leaves in its arrays is the state of its definition. Assumes nothing.
use Prim.Native.Nat.{ℕ, ◌<◌, ◌≤◌}
use mathlib.Core.Path.{◌≡◌, ◌∙◌, ap}
use mathlib.Core.List.{List}
use lib.Ieee.{Float}
use Rattle.floats.specs.Vector.{at, vec, zeros8}
use Rattle.floats.proofs.Folds.{all_cong}
use Rattle.floats.proofs.Fills.{fill_cong, vec-at}
use Rattle.thermo_types.specs.Composition.{all_finite}
use Rattle.jet.specs.declared.Jet.{Jet}
use Rattle.jet.proofs.Near.{◌≃◌}
use Rattle.excess.specs.State.{state_from, finite_state}
use Rattle.excess.specs.Steps.{GammasTo}

-- the code's L, lg, sl and g; e and M are the definition's g^E / RT and ln γ
pub state-filled : (e : Jet) (M : ℕ → Jet) (n : ℕ) (t : Float) (L : ℕ → Jet) {g : Jet} {lg sl : List Float} → n ≤ 8 → ((i : ℕ) → i < n → L i ≡ M i)
    → g ≡ e → GammasTo L n zeros8 zeros8 lg sl → state_from e M n t ≡ finite_state g n t lg sl
unfolding state_from finite_state
state-filled e M n t L {g} {lg} {sl} n8 same pg pl =
    let v : lg ≡ vec (λ i. (M i).v) n = pl.values ∙ fill_cong _ _ n zeros8 (λ i l. ap (λ (j : Jet). j.v) (same i l)) in
    let d : sl ≡ vec (λ i. (M i).d) n = pl.slopes ∙ fill_cong _ _ n zeros8 (λ i l. ap (λ (j : Jet). j.d) (same i l)) in
    let a : all_finite (at lg) n ≡ all_finite (λ i. (M i).v) n = all_cong n (λ i l. rw (v, vec-at (λ i. (M i).v) n i n8 l)) in
    let b : all_finite (at sl) n ≡ all_finite (λ i. (M i).d) n = all_cong n (λ i l. rw (d, vec-at (λ i. (M i).d) n i n8 l)) in
    rw (pg, a, b, v, d)

-- ---- a state has values and slopes of ln γ alone
pub state-near : {e e' : Jet} (L L' : ℕ → Jet) (n : ℕ) (t : Float) → e ≡ e' → ((i : ℕ) → i < n → L i ≃ L' i) → state_from e L n t ≡ state_from e' L' n t
unfolding state_from
state-near {e} {e'} L L' n t p h =
    let a : all_finite (λ i. (L i).v) n ≡ all_finite (λ i. (L' i).v) n = all_cong n (λ i l. rw (h i l).v) in
    let b : all_finite (λ i. (L i).d) n ≡ all_finite (λ i. (L' i).d) n = all_cong n (λ i l. rw (h i l).d) in
    rw (p, a, b, fill_cong (λ i. (L i).v) (λ i. (L' i).v) n zeros8 (λ i l. (h i l).v), fill_cong (λ i. (L i).d) (λ i. (L' i).d) n zeros8 (λ i l. (h i l).d))
