-- The faults of policy texts.
use Rattle.std.specs.Prelude.{ℕ}
use Rattle.sb_ruletext.specs.declared.faults.PolicyFaultKind.{PolicyFaultKind}
use Rattle.sb_ruletext.specs.declared.faults.PolicyFaultKind.TheVariants.{NotUtf8, BadVersion, UnknownWord, OtherWord, UnknownCall, UnknownParam, WrongKind, BadNumber, NoRange, EmptyRange, BadPattern, TooMany, SameName, NoHeading, NotReadOnly}

-- the number of a kind of fault
abbrev pub kind_number : PolicyFaultKind → ℕ
kind_number NotUtf8 = 1
kind_number BadVersion = 2
kind_number (UnknownWord fault) = 3
kind_number (OtherWord due) = 3
kind_number UnknownCall = 4
kind_number (UnknownParam tag) = 5
kind_number (WrongKind due) = 6
kind_number BadNumber = 7
kind_number NoRange = 7
kind_number EmptyRange = 8
kind_number (BadPattern fault) = 9
kind_number (TooMany limit) = 10
kind_number SameName = 11
kind_number NoHeading = 12
kind_number NotReadOnly = 13
