-- `book::Book::open_pairs` meets its contract. Assumes nothing.
use Rattle.std.proofs.Common.{sym, ◌∙◌}
use Rattle.book.proofs.Blocks.{each_pair}
use Rattle.book.proofs.Sound.{pairs_pass, pairs_infinite, pairs-unequal}
use Rattle.book.proofs.Book.open_pairs.Goals as goal

pub returns-then-pairs_sound : goal.returns-then-pairs_sound
returns-then-pairs_sound c = pairs_pass _ _ (sym c.if-not-pairs_right.ensures) (c.if-pairs_sound.ensures ∙ each_pair _ _ c.args.self.size _)

pub returns-then-not-pairs_finite : goal.returns-then-not-pairs_finite
returns-then-not-pairs_finite c = pairs_infinite _ _ (sym c.if-not-pairs_right.ensures) (c.if-not-pairs_finite.ensures ∙ each_pair _ _ c.args.self.size _)

pub returns : goal.returns
returns c =
    pairs-unequal _ _ (sym c.if-not-pairs_right.ensures) (c.if-not-pairs_finite.ensures ∙ each_pair _ _ c.args.self.size _)
    (c.if-pairs_sound.ensures ∙ each_pair _ _ c.args.self.size _)
