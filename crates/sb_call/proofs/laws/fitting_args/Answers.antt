use Rattle.sb_call.proofs.Fitting.{fitting_args_are_of_their_kinds}
use Rattle.sb_call.proofs.laws.fitting_args.Goals as goal

pub returns-clause-kinds : goal.returns-clause-kinds
returns-clause-kinds c = fitting_args_are_of_their_kinds
