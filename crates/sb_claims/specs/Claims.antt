-- When a claim on a policy holds: no call refutes it.
use Rattle.std.specs.Prelude.{◌≡◌, ◌||◌, ℕ, Bool, true, false, List, [], ◌∷◌}
use Rattle.std.specs.List.{list_all, list_any}
use Rattle.sb_base.specs.Wide.{is_same}
use Rattle.sb_call.specs.Arguments.{arg_at}
use Rattle.sb_call.specs.declared.arguments.Arg.{Arg}
use Rattle.sb_call.specs.declared.arguments.Arg.TheVariants as arg
use Rattle.sb_call.specs.declared.tags.CallTag.{CallTag}
use Rattle.sb_call.specs.declared.tags.CallTag.TheVariants.{FileCreate, FileOpen, FileQuery, FileRename, PipeCreate, KeyCreate, KeyOpen, EventCreate, EventOpen}
use Rattle.sb_compare.specs.Changes.{answer_to, Performed}
use Rattle.sb_cover.specs.Choices.{is_shown_arg}
use Rattle.sb_cover.specs.Lengths.{is_shorter}
use Rattle.sb_cover.specs.PolicyCovers.{is_call}
use Rattle.sb_handles.specs.declared.objects.Service.{Service}
use Rattle.sb_handles.specs.declared.objects.Service.TheVariants as service
use Rattle.sb_names.specs.Keys.{is_below, key_of}
use Rattle.sb_rule.specs.Verdicts.{cond_holds, verdict_of}
use Rattle.sb_rule.specs.declared.conditions.Cond.{Cond}
use Rattle.sb_rule.specs.declared.policies.Policy.{Policy}
use Rattle.sb_claims.specs.declared.claims.Claim.{Claim}
use Rattle.sb_claims.specs.declared.claims.Claim.TheVariants.{Never, Always, Allows, Denies, Closed}

-- the policy performs the call, with these arguments granted
abbrev pub IsPerformed : Policy → CallTag → List Arg → List Arg → Type 0
IsPerformed policy tag args given = answer_to (verdict_of policy tag args) args ≡ Performed given

-- all conditions hold on the arguments
abbrev pub conds_hold : List Cond → List Arg → Bool
conds_hold conds args = list_all (λ cond. cond_holds cond args) conds

-- the units of an argument; a number has none
abbrev pub units_by : Arg → List ℕ
units_by (arg.Num number) = []
units_by (arg.Str units) = units

-- the string at a parameter
abbrev pub string_at : List Arg → ℕ → List ℕ
string_at args param = units_by (arg_at args param)

-- the names of objects of a service that a call has
abbrev pub names_of : Service → CallTag → List Arg → List (List ℕ)
names_of service.File FileCreate args = string_at args 0 ∷ []
names_of service.File FileOpen args = string_at args 0 ∷ []
names_of service.File FileQuery args = string_at args 0 ∷ []
names_of service.File FileRename args = string_at args 0 ∷ string_at args 1 ∷ []
names_of service.Pipe PipeCreate args = string_at args 0 ∷ []
names_of service.Key KeyCreate args = string_at args 0 ∷ []
names_of service.Key KeyOpen args = string_at args 0 ∷ []
names_of service.Event EventCreate args = string_at args 0 ∷ []
names_of service.Event EventOpen args = string_at args 0 ∷ []
names_of _ _ args = []

-- the second name is the first or lies below it
abbrev pub is_at_or_below : List ℕ → List ℕ → Bool
is_at_or_below top name = is_same top name || is_below (key_of top) (key_of name)

-- a rename has a name that this one lies below
abbrev pub moves_above : Service → List ℕ → CallTag → List Arg → Bool
moves_above service.File name FileRename args = list_any (λ moved. is_below (key_of moved) (key_of name)) (names_of service.File FileRename args)
moves_above _ name _ args = false

-- the call reaches what is at a name of a service or below it
abbrev pub reaches : Service → List ℕ → CallTag → List Arg → Bool
reaches service name tag args = list_any (is_at_or_below name) (names_of service tag args) || moves_above service name tag args

-- the call refutes the claim
abbrev pub Refutes : Policy → Claim → CallTag → List Arg → Type 0
Refutes policy (Never tag conds) t args = (t ≡ tag) × (given : List Arg) × IsPerformed policy t args given × (conds_hold conds given ≡ true)
Refutes policy (Always tag conds) t args = (t ≡ tag) × (conds_hold conds args ≡ true) × (IsPerformed policy t args args → ⊥)
Refutes policy (Allows tag call) t args = (t ≡ tag) × (args ≡ call) × (IsPerformed policy t args args → ⊥)
Refutes policy (Denies tag call) t args = (t ≡ tag) × (args ≡ call) × (given : List Arg) × IsPerformed policy t args given
Refutes policy (Closed service name) t args = (reaches service name t args ≡ true) × (given : List Arg) × IsPerformed policy t args given

-- a claim holds if no call refutes it
abbrev pub Holds : Policy → Claim → Type 0
Holds policy claim = (tag : CallTag) (args : List Arg) → is_call tag args ≡ true → Refutes policy claim tag args → ⊥

-- no call could refute it, since its conditions never hold together
abbrev pub IsOfNoCall : Claim → Type 0
IsOfNoCall (Never tag conds) = (args : List Arg) → is_call tag args ≡ true → conds_hold conds args ≡ true → ⊥
IsOfNoCall (Always tag conds) = (args : List Arg) → is_call tag args ≡ true → conds_hold conds args ≡ true → ⊥
IsOfNoCall (Allows tag call) = ⊥
IsOfNoCall (Denies tag call) = ⊥
IsOfNoCall (Closed service name) = ⊥

-- the claim is on one call, which it names
abbrev pub is_of_one_call : Claim → Bool
is_of_one_call (Never tag conds) = false
is_of_one_call (Always tag conds) = false
is_of_one_call (Allows tag call) = true
is_of_one_call (Denies tag call) = true
is_of_one_call (Closed service name) = false

-- the call refutes the claim, and no call that does is shorter; a script can have it, unless it is the claim's own
pub record IsRefutedBy (policy : Policy) (claim : Claim) (tag : CallTag) (call : List Arg) : Type 0 where
  pub fits : is_call tag call ≡ true
  pub refutes : Refutes policy claim tag call
  pub shortest : (other : List Arg) → is_call tag other ≡ true → Refutes policy claim tag other → is_shorter other call ≡ false
  pub written : is_of_one_call claim ≡ false → list_all is_shown_arg call ≡ true
