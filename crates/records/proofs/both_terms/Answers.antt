-- `records::both_terms` meets its contract. Assumes nothing.
use Rattle.records.specs.Parameters.{terms_of, term_in, pair_term, lower_from}
use Rattle.records.proofs.both_terms.Goals as goal

pub returns-in-Nrtl-clause-lower : goal.returns-in-Nrtl-clause-lower
unfolding terms_of term_in pair_term lower_from
returns-in-Nrtl-clause-lower c = rw (c.in-Nrtl.is, c.nrtl_terms-ij.ensures) (cc)
