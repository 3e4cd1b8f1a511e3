-- `records::eight_floats` meets its contract. Assumes nothing.
use Rattle.std.proofs.Common.{rules, ◌+◌}
use Rattle.blocks.specs.Words.{word}
use Rattle.blocks.proofs.Made.{made_at}
use Rattle.floats.specs.Small.{float}
use Rattle.records.proofs.Loads.{vec_made}
use Rattle.records.proofs.eight_floats.Goals as goal

pub returns : goal.returns
returns c = vec_made _ _ c.from_fn.ensures.items.long (made_at _ _ (λ k. float (word c.args.s.now) (c.args.from + k)) _ (λ k y q h. search rules) c.from_fn.ensures.items)
