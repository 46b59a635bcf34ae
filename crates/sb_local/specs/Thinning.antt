-- A script without the calls that its targets deny themselves.
use Rattle.std.specs.Prelude.{ℕ, ◌+◌, Bool, ◌&&◌, nat_le, List, [], ◌∷◌, ◌++◌, length, map, Option, None, Some}
use Rattle.std.specs.List.{list_all}
use Rattle.sb_call.specs.declared.tags.CallTag.{CallTag}
use Rattle.sb_rule.specs.Verdicts.{policy_at}
use Rattle.sb_rule.specs.declared.policies.Policy.{Policy}
use Rattle.sb_rule.specs.declared.verdicts.Verdict.{Verdict}
use Rattle.sb_statements.specs.Limits.{most_targets}
use Rattle.sb_statements.specs.declared.scripts.Script.{Script}
use Rattle.sb_statements.specs.declared.scripts.TargetScript.{TargetScript}
use Rattle.sb_statements.specs.declared.statements.Statement.{Statement}
use Rattle.sb_local.specs.Denials.{denial_of, denials, fits_its_call}
use Rattle.sb_local.specs.declared.denials.LocalDenial.{LocalDenial}

-- a statement that is sent
abbrev pub statement_if_kept : Statement → Option (CallTag × Verdict) → List Statement
statement_if_kept statement None = statement ∷ []
statement_if_kept statement (Some denial) = []

-- the statements of a thread that are sent, in their order
abbrev pub thin_thread : Policy → List Statement → List Statement
thin_thread policy [] = []
thin_thread policy (statement ∷ more) = statement_if_kept statement (denial_of policy statement) ++ thin_thread policy more

-- the threads of a target under this policy, each thinned
abbrev pub thin_target : Policy → TargetScript → TargetScript
thin_target policy target = record target { threads = map (thin_thread policy) target.threads }

-- targets, of which the first has this number, each under its own policy
abbrev pub thin_targets : List Policy → ℕ → List TargetScript → List TargetScript
thin_targets policies t [] = []
thin_targets policies t (target ∷ more) = thin_target (policy_at policies t) target ∷ thin_targets policies (t + 1) more

-- the place of a statement that is sent
abbrev pub place_if_kept : ℕ → Option (CallTag × Verdict) → List ℕ
place_if_kept i None = i ∷ []
place_if_kept i (Some denial) = []

-- the places of the statements of a thread that are sent, the first statement being at this place
abbrev pub kept_from : Policy → ℕ → List Statement → List ℕ
kept_from policy i [] = []
kept_from policy i (statement ∷ more) = place_if_kept i (denial_of policy statement) ++ kept_from policy (i + 1) more

-- the same of each thread of a target
abbrev pub kept_in_target : Policy → TargetScript → List (List ℕ)
kept_in_target policy target = map (kept_from policy 0) target.threads

-- and of each target, of which the first has this number
abbrev pub kept_in_targets : List Policy → ℕ → List TargetScript → List (List (List ℕ))
kept_in_targets policies t [] = []
kept_in_targets policies t (target ∷ more) = kept_in_target (policy_at policies t) target ∷ kept_in_targets policies (t + 1) more

-- What is sent of a script, at which place of its thread each statement of that was before, by target and thread, and the calls that are denied, by
-- target, thread and place
pub record Thinned : Type 0 where
  pub script : Script
  pub kept : List (List (List ℕ))
  pub denied : List LocalDenial

-- a script under a policy for each target, thinned
abbrev pub thin : List Policy → Script → Thinned
thin policies script = record {
  script = record script { targets = thin_targets policies 0 script.targets };
  kept = kept_in_targets policies 0 script.targets;
  denied = denials policies script;
}

-- the arguments of the calls of a thread fit
abbrev pub fits_in_thread : List Statement → Bool
fits_in_thread statements = list_all fits_its_call statements

-- and those of all threads of a target
abbrev pub fits_in_target : TargetScript → Bool
fits_in_target target = list_all fits_in_thread target.threads

-- what thinning needs of targets: they are at most 8, and the arguments of their calls fit
abbrev pub fits_in_targets : List TargetScript → Bool
fits_in_targets targets = nat_le (length targets) most_targets && list_all fits_in_target targets
