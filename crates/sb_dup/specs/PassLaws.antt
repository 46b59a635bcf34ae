-- What is true of all moves.
use Rattle.std.specs.Prelude.{◌≡◌, Bool, true, false, List, Some}
use Rattle.sb_dup.specs.Chains.{table_after}
use Rattle.sb_dup.specs.Openings.{opening_of}
use Rattle.sb_dup.specs.Passes.{has_more, is_granted, pass}
use Rattle.sb_dup.specs.Passings.{AreKept}
use Rattle.sb_dup.specs.declared.moves.Move.{Move}
use Rattle.sb_dup.specs.declared.moves.MoveAnswer.{MoveAnswer}
use Rattle.sb_dup.specs.declared.moves.MoveAnswer.TheVariants.{Given, NotHeld, MoreAccess, NoOpening, Denied}
use Rattle.sb_dup.specs.declared.openings.Opening.{Opening}
use Rattle.sb_handles.specs.Tables.{Table, held_by}
use Rattle.sb_handles.specs.declared.objects.Held.{Held}
use Rattle.sb_handles.specs.declared.objects.Service.TheVariants as service
use Rattle.sb_kernel.specs.Kept.{IsSound}
use Rattle.sb_kernel.specs.Namespaces.{Space}
use Rattle.sb_rule.specs.Verdicts.{policy_at, verdict_of}
use Rattle.sb_rule.specs.declared.policies.Policy.{Policy}

-- a handle was given
abbrev pub is_given : MoveAnswer → Bool
is_given (Given handle access) = true
is_given NotHeld = false
is_given (MoreAccess held) = false
is_given NoOpening = false
is_given (Denied target verdict) = false

-- the giver holds the handle with the access asked for, and there is a call that opens its object, which both policies allow
pub record IsAllowed (ns : Space) (policies : List Policy) (m : Move) (table : Table) : Type 0 where
  pub held : Held
  pub call : Opening
  pub is_held : held_by table m.from m.handle ≡ Some held
  pub within : has_more m.access held.access.0 ≡ false
  pub opens : opening_of ns held m.access ≡ Some call
  pub giver : is_granted (verdict_of (policy_at policies m.from) call.tag call.args) ≡ true
  pub taker : is_granted (verdict_of (policy_at policies m.to) call.tag call.args) ≡ true

-- a handle is given only by a move that both policies allow
abbrev pub GrantsAreAllowed : Type 0
GrantsAreAllowed = (ns : Space) (policies : List Policy) (m : Move) (table : Table) → is_given (pass ns policies m table).answer ≡ true
    → IsAllowed ns policies m table

-- and it is given by each such move
abbrev pub AllowedAreGranted : Type 0
AllowedAreGranted = (ns : Space) (policies : List Policy) (m : Move) (table : Table) → IsAllowed ns policies m table
    → is_given (pass ns policies m table).answer ≡ true

-- any other move changes nothing
abbrev pub RefusedMovesChangeNothing : Type 0
RefusedMovesChangeNothing = (ns : Space) (policies : List Policy) (m : Move) (table : Table) → is_given (pass ns policies m table).answer ≡ false
    → (pass ns policies m table).table ≡ table

-- the giver holds a pipe with the access asked for
pub record GivesPipe (m : Move) (table : Table) : Type 0 where
  pub held : Held
  pub is_held : held_by table m.from m.handle ≡ Some held
  pub within : has_more m.access held.access.0 ≡ false
  pub is_pipe : held.object.service ≡ service.Pipe

-- no call opens a pipe
abbrev pub PipesAreNotOpened : Type 0
PipesAreNotOpened = (ns : Space) (policies : List Policy) (m : Move) (table : Table) → GivesPipe m table → (pass ns policies m table).answer ≡ NoOpening

-- and some call opens everything else that the handles of a kernel are open on, also after moves
abbrev pub OnlyPipesAreNotOpened : Type 0
OnlyPipesAreNotOpened = (ns : Space) (policies : List Policy) (m : Move) (table : Table) → IsSound ns → AreKept ns.handles.handles table.handles
    → (pass ns policies m table).answer ≡ NoOpening → GivesPipe m table

-- however many moves are made, the handles that were there stay as they were, and each further one has the object and the sharing of
-- one of them and no bit of access that this one lacks
abbrev pub ChainsNeverWiden : Type 0
ChainsNeverWiden = (ns : Space) (policies : List Policy) (moves : List Move) (table : Table)
    → AreKept table.handles (table_after ns policies moves table).handles
