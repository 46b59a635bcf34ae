-- The faults of files of moves.
use Rattle.std.specs.Prelude.{ℕ}
use Rattle.sb_dup.specs.declared.faults.MoveKind.{MoveKind}
use Rattle.sb_dup.specs.declared.faults.MoveKind.TheVariants.{UnknownWord, NoSuchTarget, BadNumber, WideAccess, TooMany}

-- the number of a kind of fault
abbrev pub kind_number : MoveKind → ℕ
kind_number (UnknownWord why) = 1
kind_number (NoSuchTarget target targets) = 2
kind_number BadNumber = 3
kind_number WideAccess = 3
kind_number TooMany = 4
