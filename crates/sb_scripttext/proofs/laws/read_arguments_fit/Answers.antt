use Rattle.sb_scripttext.proofs.Fitting.{read_arguments_fit}
use Rattle.sb_scripttext.proofs.laws.read_arguments_fit.Goals as goal

pub returns : goal.returns
returns c = read_arguments_fit
