-- What a move does.
use Rattle.std.specs.Prelude.{ℕ, ◌+◌, Bool, true, false, not, ◌||◌, ◌==◌, bit_and, List, Option, None, Some, if◌then◌else◌}
use Rattle.sb_rule.specs.Accesses.{read_only_bits}
use Rattle.sb_dup.specs.Openings.{opening_of}
use Rattle.sb_dup.specs.declared.moves.Move.{Move}
use Rattle.sb_dup.specs.declared.moves.MoveAnswer.{MoveAnswer}
use Rattle.sb_dup.specs.declared.moves.MoveAnswer.TheVariants.{Given, NotHeld, MoreAccess, NoOpening, Denied}
use Rattle.sb_dup.specs.declared.openings.Opening.{Opening}
use Rattle.sb_handles.specs.Masks.{access_of}
use Rattle.sb_handles.specs.Tables.{Table, held_by, with_handle}
use Rattle.sb_handles.specs.declared.objects.Held.{Held}
use Rattle.sb_kernel.specs.Namespaces.{Space}
use Rattle.sb_rule.specs.Verdicts.{policy_at, verdict_of}
use Rattle.sb_rule.specs.declared.actions.Action.TheVariants.{Allow, Deny, Alarm, Fake, ReadOnly}
use Rattle.sb_rule.specs.declared.policies.Policy.{Policy}
use Rattle.sb_rule.specs.declared.verdicts.Verdict.{Verdict}
use Rattle.sb_rule.specs.declared.verdicts.Verdict.TheVariants as verdict

-- ---- what verdicts grant

-- the call is performed
abbrev pub is_granted : Verdict → Bool
is_granted (verdict.Rule line Allow) = true
is_granted (verdict.Rule line ReadOnly) = true
is_granted (verdict.Rule line Deny) = false
is_granted (verdict.Rule line Alarm) = false
is_granted (verdict.Rule line Fake) = false
is_granted verdict.NoRule = false

-- with its access cut to the bits that only read
abbrev pub is_cut : Verdict → Bool
is_cut (verdict.Rule line ReadOnly) = true
is_cut (verdict.Rule line Allow) = false
is_cut (verdict.Rule line Deny) = false
is_cut (verdict.Rule line Alarm) = false
is_cut (verdict.Rule line Fake) = false
is_cut verdict.NoRule = false

-- the access that two verdicts grant: cut if one of them cuts
abbrev pub access_granted : Verdict → Verdict → ℕ → ℕ
access_granted giver taker access = if is_cut giver || is_cut taker then bit_and access read_only_bits else access

-- ---- the move

-- the answer of a move, and the handles after it
pub record Passed : Type 0 where
  pub answer : MoveAnswer
  pub table : Table

-- a move is refused, and changes nothing
abbrev pub refused : Table → MoveAnswer → Passed
refused table answer = record { answer = answer; table = table }

-- what a handle is open on, with another access
abbrev pub with_access : Held → ℕ → Held
with_access held access = record { object = held.object; access = access_of access; sharing = held.sharing }

-- a target is given a handle on the same object, with this access and the same sharing
abbrev pub given : Table → ℕ → Held → ℕ → Passed
given table target held access =
    record { answer = Given (table.granted + 1) access; table = with_handle table target (with_access held access) }

-- by the verdict of the giver's policy, and then by that of the taker's
abbrev pub by_verdicts : Verdict → Verdict → Move → Held → Table → Passed
by_verdicts giver taker m held table =
    if is_granted giver
    then (if is_granted taker then given table m.to held (access_granted giver taker m.access) else refused table (Denied m.to taker))
    else refused table (Denied m.from giver)

-- by the call that opens the object
abbrev pub by_opening : Option Opening → List Policy → Move → Held → Table → Passed
by_opening None policies m held table = refused table NoOpening
by_opening (Some call) policies m held table =
    by_verdicts (verdict_of (policy_at policies m.from) call.tag call.args) (verdict_of (policy_at policies m.to) call.tag call.args) m held table

-- an access has a bit that another lacks
abbrev pub has_more : ℕ → ℕ → Bool
has_more access held = not (bit_and access held == access)

-- by what the giver holds under the number
abbrev pub by_held : Option Held → Space → List Policy → Move → Table → Passed
by_held None ns policies m table = refused table NotHeld
by_held (Some held) ns policies m table =
    if has_more m.access held.access.0 then refused table (MoreAccess held.access.0)
    else by_opening (opening_of ns held m.access) policies m held table

-- a move over the objects of a namespace, by the policies of the targets, from these handles
abbrev pub pass : Space → List Policy → Move → Table → Passed
pass ns policies m table = by_held (held_by table m.from m.handle) ns policies m table

-- ---- when a move takes memory

-- it is not refused before the name of the object is needed
abbrev pub needs_name_by : Option Held → Move → Bool
needs_name_by None m = false
needs_name_by (Some held) m = not (has_more m.access held.access.0)

abbrev pub needs_name : Move → Table → Bool
needs_name m table = needs_name_by (held_by table m.from m.handle) m
