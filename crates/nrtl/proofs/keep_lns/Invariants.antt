-- `nrtl::keep_lns` meets its contract. Assumes nothing.
use Rattle.std.proofs.Common.{◌≡◌}
use Rattle.floats.specs.Vector.{fill_from}
use Rattle.excess.specs.Steps.{jet_of}
use Rattle.nrtl.proofs.keep_lns.Given as goal

abbrev pub invariant-loop-w : goal.invariant-loop-w
invariant-loop-w g l = l.ln_gamma ≡ fill_from (λ v. (jet_of l.l v).v) l.i l.w l.initial.ln_gamma

abbrev pub invariant-loop-w-2 : goal.invariant-loop-w-2
invariant-loop-w-2 g l = l.slopes ≡ fill_from (λ v. (jet_of l.l v).d) l.i l.w l.initial.slopes
