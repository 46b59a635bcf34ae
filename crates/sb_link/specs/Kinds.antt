-- The numbers of the kinds of faults.
use Rattle.std.specs.Prelude.{ℕ}
use Rattle.sb_link.specs.declared.faults.LinkKind.{LinkKind}
use Rattle.sb_link.specs.declared.faults.LinkKind.TheVariants.{NotUtf8, UnknownWord, BadName, SameName, TooMany}

-- the number of a kind
abbrev pub kind_number : LinkKind → ℕ
kind_number NotUtf8 = 1
kind_number (UnknownWord word) = 2
kind_number BadName = 3
kind_number SameName = 4
kind_number TooMany = 5
