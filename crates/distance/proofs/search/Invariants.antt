-- `distance::search` meets its contract. The loop's invariant: what is left to search from here gives the same as the whole search. Assumes nothing.
use Prim.Native.Nat.{◌≤◌, ◌-◌}
use mathlib.Core.Path.{◌≡◌}
use Rattle.distance.specs.Distance.{step_count, search_from}
use Rattle.distance.specs.Steps.{outcome_in, Keeps}
use Rattle.distance.proofs.search.Given as goal

abbrev pub invariant-loop-j : goal.invariant-loop-j
invariant-loop-j l =
    let run = search_from (outcome_in l.feed) l.p l.outcome in
    (l.refused ≤ l.j) × Keeps l.feed l.kept × (run (step_count - l.j) l.j l.refused ≡ run step_count 0 0)
