-- A decision as what was ruled and the arguments that are granted.
use Rattle.std.specs.Prelude.{List, []}
use Rattle.sb_call.specs.declared.arguments.Arg.{Arg}
use Rattle.sb_book.specs.declared.decisions.Decision.{Decision}
use Rattle.sb_book.specs.declared.decisions.Decision.TheVariants.{Refused, Denied, Faked, Performed}
use Rattle.sb_book.specs.declared.rulings.Ruling.{Ruling}
use Rattle.sb_book.specs.declared.rulings.Ruling.TheVariants as ruling

-- a decision without its arguments
abbrev pub ruling_of : Decision → Ruling
ruling_of (Refused fault) = ruling.Refused fault
ruling_of (Denied tag verdict) = ruling.Denied tag verdict
ruling_of (Faked tag line) = ruling.Faked tag line
ruling_of (Performed tag line action args) = ruling.Performed tag line action

-- the arguments that are granted
abbrev pub args_of : Decision → List Arg
args_of (Refused fault) = []
args_of (Denied tag verdict) = []
args_of (Faked tag line) = []
args_of (Performed tag line action args) = args

-- the decision of a ruling and these arguments
abbrev pub decision_with : Ruling → List Arg → Decision
decision_with (ruling.Refused fault) args = Refused fault
decision_with (ruling.Denied tag verdict) args = Denied tag verdict
decision_with (ruling.Faked tag line) args = Faked tag line
decision_with (ruling.Performed tag line action) args = Performed tag line action args
