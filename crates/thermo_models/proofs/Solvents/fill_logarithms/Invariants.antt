-- `thermo_models::Solvents::fill_logarithms` meets its contract. Assumes nothing.
use mathlib.Core.Path.{◌≡◌}
use Rattle.floats.specs.Vector.{vec}
use Rattle.liquid.specs.Vapor.{vapor_of}
use Rattle.thermo_models.specs.Domain.{vapor_record}
use Rattle.thermo_models.proofs.Solvents.fill_logarithms.Given as goal

abbrev pub invariant-loop-i : goal.invariant-loop-i
invariant-loop-i l =
    (l.ls ≡ vec (λ k. (vapor_of (vapor_record l.self.book.now k) l.self.t).ln.value) l.i)
    × (l.dps ≡ vec (λ k. (vapor_of (vapor_record l.self.book.now k) l.self.t).ln.slope) l.i)
    × (l.cs ≡ vec (λ k. (vapor_of (vapor_record l.self.book.now k) l.self.t).ln.curvature) l.i)
