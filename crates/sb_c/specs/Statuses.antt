-- The numbers of statuses.
use Rattle.std.specs.Prelude.{ℕ, ◌==◌, Bool, List, [], ◌∷◌, Option, None, Some, if◌then◌else◌}
use Rattle.sb_c.specs.declared.statuses.Status.{Status}
use Rattle.sb_c.specs.declared.statuses.Status.TheVariants.{Ok, BadCall, NoMemory, Fault, NoRoom, NoLiteral, TooBig}

-- each status has its own number
abbrev pub status_number : Status → ℕ
status_number Ok = 0
status_number BadCall = 1
status_number NoMemory = 2
status_number Fault = 3
status_number NoRoom = 4
status_number NoLiteral = 5
status_number TooBig = 6

-- all statuses in the order of their numbers
abbrev pub every_status : List Status
every_status = Ok ∷ BadCall ∷ NoMemory ∷ Fault ∷ NoRoom ∷ NoLiteral ∷ TooBig ∷ []

-- the first of these statuses whose number it is
abbrev pub status_among : List Status → ℕ → Option Status
status_among [] n = None
status_among (s ∷ ss) n = if n == status_number s then Some s else status_among ss n

-- the status of a number
abbrev pub status_of : ℕ → Option Status
status_of n = status_among every_status n

-- what fits is done, and what does not is a bad call
abbrev pub done_or_bad : Bool → ℕ
done_or_bad done = if done then 0 else 1
