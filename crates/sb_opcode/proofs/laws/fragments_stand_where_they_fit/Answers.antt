use Rattle.sb_opcode.proofs.PlaceLemmas.{skip_leaves, forward_takes, forward_misses, end_is_last, exact_leaves, stars_fit}
use Rattle.sb_opcode.proofs.laws.fragments_stand_where_they_fit.Goals as goal

pub returns-clause-skip : goal.returns-clause-skip
returns-clause-skip c = skip_leaves

pub returns-clause-forward : goal.returns-clause-forward
returns-clause-forward c = forward_takes

pub returns-clause-nowhere : goal.returns-clause-nowhere
returns-clause-nowhere c = forward_misses

pub returns-clause-end : goal.returns-clause-end
returns-clause-end c = end_is_last

pub returns-clause-exact : goal.returns-clause-exact
returns-clause-exact c = exact_leaves

pub returns-clause-stars : goal.returns-clause-stars
returns-clause-stars c = stars_fit
