-- Policies that are loaded, named and found.
use Rattle.std.specs.Prelude.{◌≡◌, ◌<◌, ◌^◌, ℕ, Bool, true, false, ◌&&◌, nat_le, nat_lt, List, length, Option, None, Some, Result, Ok, Err, if◌then◌else◌}
use Rattle.std.specs.List.{position}
use Rattle.sb_rule.specs.Verdicts.{policy_at}
use Rattle.sb_rule.specs.WellMade.{is_named}
use Rattle.sb_rule.specs.declared.policies.Policy.{Policy}
use Rattle.sb_ruletext.specs.Kinds.{kind_number}
use Rattle.sb_ruletext.specs.PolicyTexts.{PolicyFault, reading}
use Rattle.sb_c.specs.Contents.{may_load, policies_in}
use Rattle.sb_c.specs.Owning.{Content}
use Rattle.sb_c.specs.declared.shapes.TextFault.{TextFault}
use Rattle.sb_c.specs.declared.statuses.Status.{Status}
use Rattle.sb_c.specs.declared.statuses.Status.TheVariants as status

-- the line, the column and the number of a fault
abbrev pub fault_shown : PolicyFault → TextFault
fault_shown found = record { line = found.line; column = found.column; number = kind_number found.kind }

-- the fault is that of the text
abbrev pub IsFaultOf : Result (List Policy) PolicyFault → TextFault → Type 0
IsFaultOf (Ok policies) shown = ⊥
IsFaultOf (Err found) shown = shown ≡ fault_shown found

-- the text is short enough, and the handle may take policies
abbrev pub can_load : List ℕ → Option Content → Bool
can_load text old = nat_le (length text) 4194304 && may_load old

-- the status of a load: the policies are those of the text, its first fault is shown, the text is too long or the handle holds something else,
-- or there was no memory
abbrev pub IsLoaded : List ℕ → Option Content → Option Content → TextFault → Option Status → Type 0
IsLoaded text old new shown (Some status.Ok) = (can_load text old ≡ true) × (may_load new ≡ true) × (reading text ≡ Ok (policies_in new))
IsLoaded text old new shown (Some status.Fault) = (can_load text old ≡ true) × IsFaultOf (reading text) shown
IsLoaded text old new shown (Some status.BadCall) = can_load text old ≡ false
IsLoaded text old new shown (Some status.NoMemory) = can_load text old ≡ true
IsLoaded text old new shown _ = ⊥

-- a number that 32 bits hold
abbrev pub small : Option ℕ → Option ℕ
small None = None
small (Some n) = if nat_lt n (2 ^ 32) then Some n else None

-- the number of the policy of this name
abbrev pub number_named : List ℕ → List Policy → Option ℕ
number_named name policies = small (position (is_named name) policies)

-- the status of a name: it is at the front of the room and has this many bytes, it needs more room, or there is no such policy
abbrev pub IsNameShown : List Policy → ℕ → ℕ → ℕ → List ℕ → Option Status → Type 0
IsNameShown policies number room count front (Some status.Ok) =
    (nat_lt number (length policies) ≡ true) × (front ≡ (policy_at policies number).name) × (length front ≡ count)
IsNameShown policies number room count front (Some status.NoRoom) = (nat_lt number (length policies) ≡ true) × (room < length (policy_at policies number).name)
IsNameShown policies number room count front (Some status.BadCall) = nat_lt number (length policies) ≡ false
IsNameShown policies number room count front _ = ⊥
