-- What the targets of a script send of it.
use Rattle.std.specs.Prelude.{List, Option, None, Some}
use Rattle.sb_book.specs.ReadyScripts.{Ready}
use Rattle.sb_local.specs.declared.denials.LocalDenial.{LocalDenial}

-- what is sent of a script, ready for its policies, and the calls that are denied
pub record Sent : Type 0 where
  pub ready : Ready
  pub denied : List LocalDenial

-- the thinned script, or the script as it was written if there is none
abbrev pub sent_of : Option Ready → Ready → Ready
sent_of None written = written
sent_of (Some thinned) written = thinned
