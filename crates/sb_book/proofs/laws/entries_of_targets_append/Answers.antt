use Rattle.sb_book.proofs.TargetLaws.{targets_append, own_entry_is_last, other_entries_stay}
use Rattle.sb_book.proofs.laws.entries_of_targets_append.Goals as goal

pub returns-clause-append : goal.returns-clause-append
returns-clause-append c = targets_append

pub returns-clause-own : goal.returns-clause-own
returns-clause-own c = own_entry_is_last

pub returns-clause-others : goal.returns-clause-others
returns-clause-others c = other_entries_stay
