-- `records::NrtlPairs` gives what its blocks have. Assumes nothing.
use Rattle.book.specs.declared.Model.TheVariants.{Nrtl}
use Rattle.records.proofs.Sources.{upper_six, lower_six}
use Rattle.records.proofs.NrtlPairsSource.both.Goals as goal

pub returns-clause-first : goal.returns-clause-first
returns-clause-first c = λ h l. upper_six Nrtl _ _ _ _ h (c.block.ensures h l) c.both_terms.ensures.upper c.six.ensures

pub returns-clause-second : goal.returns-clause-second
returns-clause-second c = λ h l. lower_six Nrtl _ _ _ _ h (c.block.ensures h l) c.both_terms.ensures.lower c.six-2.ensures
