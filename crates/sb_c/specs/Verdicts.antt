-- Verdicts as C sees them.
use Rattle.std.specs.Prelude.{◌≡◌, ℕ, Bool, true, false, ◌&&◌, nat_lt, List, length, Option, None, Some}
use Rattle.sb_call.specs.Tags.{tag_of}
use Rattle.sb_call.specs.declared.arguments.Arg.{Arg}
use Rattle.sb_call.specs.declared.tags.CallTag.{CallTag}
use Rattle.sb_rule.specs.Actions.{action_number}
use Rattle.sb_rule.specs.Verdicts.{policy_at, verdict_of}
use Rattle.sb_rule.specs.declared.policies.Policy.{Policy}
use Rattle.sb_rule.specs.declared.verdicts.Verdict.{Verdict}
use Rattle.sb_rule.specs.declared.verdicts.Verdict.TheVariants as verdict
use Rattle.sb_c.specs.Blocks.{CallOfC, args_of, is_call, is_named}
use Rattle.sb_c.specs.declared.shapes.CallVerdict.{CallVerdict}
use Rattle.sb_c.specs.declared.statuses.Status.{Status}
use Rattle.sb_c.specs.declared.statuses.Status.TheVariants as status

-- the line and the action of the rule that decides, or that there is none
abbrev pub verdict_shown : Verdict → CallVerdict
verdict_shown (verdict.Rule line action) = record { has_rule = 1; line = line; action = action_number action; room = 0 }
verdict_shown verdict.NoRule = record { has_rule = 0; line = 0; action = 0; room = 0 }

-- there is such a policy, and such a call with these arguments
abbrev pub can_judge : List Policy → ℕ → CallOfC → Bool
can_judge policies number c = nat_lt number (length policies) && is_call c

-- the verdict of the policy on the call
abbrev pub verdict_by_tag : Policy → Option CallTag → List Arg → Verdict
verdict_by_tag policy None args = verdict.NoRule
verdict_by_tag policy (Some tag) args = verdict_of policy tag args

abbrev pub verdict_on : List Policy → ℕ → CallOfC → Verdict
verdict_on policies number c = verdict_by_tag (policy_at policies number) (tag_of c.number) (args_of c)

-- why there is no verdict: there is no such policy or call, or there was no memory for its arguments
abbrev pub IsNoVerdict : List Policy → ℕ → CallOfC → Status → Type 0
IsNoVerdict policies number c status.BadCall = can_judge policies number c ≡ false
IsNoVerdict policies number c status.NoMemory = is_named c ≡ true
IsNoVerdict policies number c _ = ⊥

-- the status of a verdict
abbrev pub IsJudged : List Policy → ℕ → CallOfC → CallVerdict → Option Status → Type 0
IsJudged policies number c shown (Some status.Ok) = (can_judge policies number c ≡ true) × (shown ≡ verdict_shown (verdict_on policies number c))
IsJudged policies number c shown (Some s) = IsNoVerdict policies number c s
IsJudged policies number c shown None = ⊥
