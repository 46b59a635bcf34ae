-- Calls that a target denies itself.
use Rattle.std.specs.Prelude.{ℕ, Bool, true, false, ◌&&◌, nat_lt, List, [], ◌∷◌, length, Option, None, Some, if◌then◌else◌}
use Rattle.std.specs.List.{flat_map}
use Rattle.sb_call.specs.Arguments.{fits}
use Rattle.sb_call.specs.declared.tags.CallTag.{CallTag}
use Rattle.sb_rule.specs.Verdicts.{policy_at, verdict_of}
use Rattle.sb_rule.specs.declared.actions.Action.TheVariants.{Allow, Deny, Alarm, Fake, ReadOnly}
use Rattle.sb_rule.specs.declared.policies.Policy.{Policy}
use Rattle.sb_rule.specs.declared.verdicts.Verdict.{Verdict}
use Rattle.sb_rule.specs.declared.verdicts.Verdict.TheVariants.{Rule, NoRule}
use Rattle.sb_statements.specs.PlacedStatements.{Placed, placed_statements}
use Rattle.sb_statements.specs.declared.scripts.Script.{Script}
use Rattle.sb_statements.specs.declared.statements.Statement.{Statement}
use Rattle.sb_statements.specs.declared.statements.Statement.TheVariants.{Call, Store, Exchange, Load, Wait}
use Rattle.sb_local.specs.declared.denials.LocalDenial.{LocalDenial}

-- a target may deny a call itself if no rule holds, or the first that holds says deny; an alarm or a fake is for the broker to see
abbrev pub is_local_denial : Verdict → Bool
is_local_denial NoRule = true
is_local_denial (Rule line Deny) = true
is_local_denial (Rule line Alarm) = false
is_local_denial (Rule line Fake) = false
is_local_denial (Rule line Allow) = false
is_local_denial (Rule line ReadOnly) = false

-- a call and its verdict, if a target may deny it itself
abbrev pub if_denial : CallTag → Verdict → Option (CallTag × Verdict)
if_denial tag verdict = if is_local_denial verdict then Some (tag, verdict) else None

-- the call and its verdict, if the statement is a call that a target with this policy denies itself
abbrev pub denial_of : Policy → Statement → Option (CallTag × Verdict)
denial_of policy (Call tag args) = if_denial tag (verdict_of policy tag args)
denial_of policy (Store target word value) = None
denial_of policy (Exchange target word from to) = None
denial_of policy (Load target word) = None
denial_of policy (Wait target word value most) = None

-- the arguments of a call fit it
abbrev pub fits_its_call : Statement → Bool
fits_its_call (Call tag args) = fits tag args
fits_its_call (Store target word value) = true
fits_its_call (Exchange target word from to) = true
fits_its_call (Load target word) = true
fits_its_call (Wait target word value most) = true

-- a call that its target denies itself, with its place
abbrev pub denial_at : ℕ → ℕ → ℕ → Option (CallTag × Verdict) → List LocalDenial
denial_at t k i None = []
denial_at t k i (Some denial) = record { target = t; thread = k; place = i; tag = denial.0; verdict = denial.1 } ∷ []

-- the same of a statement, under the policy of its target
abbrev pub denial_in : List Policy → Placed → List LocalDenial
denial_in policies p = denial_at p.target p.thread p.place (denial_of (policy_at policies p.target) p.statement)

-- those of these statements that are calls which their targets deny themselves, in order
abbrev pub denials_in : List Policy → List Placed → List LocalDenial
denials_in policies statements = flat_map (denial_in policies) statements

-- the calls that the targets of a script deny themselves, by target, thread and place
abbrev pub denials : List Policy → Script → List LocalDenial
denials policies script = denials_in policies (placed_statements script)

-- the target of a statement has a policy, and the arguments of a call fit it
abbrev pub can_be_judged : List Policy → Placed → Bool
can_be_judged policies p = nat_lt p.target (length policies) && fits_its_call p.statement
