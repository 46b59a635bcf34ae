-- The faults of script texts.
use Rattle.std.specs.Prelude.{ℕ}
use Rattle.sb_scripttext.specs.declared.faults.ScriptKind.{ScriptKind}
use Rattle.sb_scripttext.specs.declared.faults.ScriptKind.TheVariants.{NotUtf8, UnknownWord, UnknownCall, WrongArgs, BadNumber, OutOfRange, BadName, NoSuchPolicy, NoSuchTarget, NoSuchChannel, NoSuchWord, TooMany, TooBig, SameName, BadStart}

-- the number of a kind of fault
abbrev pub kind_number : ScriptKind → ℕ
kind_number NotUtf8 = 1
kind_number (UnknownWord why) = 2
kind_number UnknownCall = 3
kind_number (WrongArgs why) = 4
kind_number BadNumber = 5
kind_number (OutOfRange low high) = 5
kind_number BadName = 6
kind_number NoSuchPolicy = 7
kind_number (NoSuchTarget target targets) = 8
kind_number (NoSuchChannel channel target channels) = 9
kind_number NoSuchWord = 10
kind_number (TooMany limit) = 11
kind_number TooBig = 12
kind_number SameName = 13
kind_number (BadStart why) = 14
