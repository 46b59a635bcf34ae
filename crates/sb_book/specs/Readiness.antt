-- When a script can be run under policies.
use Rattle.std.specs.Prelude.{◌≡◌, ℕ, Bool, true, ◌&&◌, nat_lt, List, length, is_ok}
use Rattle.std.specs.List.{list_all}
use Rattle.sb_statements.specs.declared.scripts.Script.{Script}
use Rattle.sb_statements.specs.declared.scripts.TargetScript.{TargetScript}
use Rattle.sb_statements.specs.Soundness.{is_sound}
use Rattle.sb_statements.specs.SoundScripts.{has_short_names}
use Rattle.sb_statements.specs.Units.{script_has_units}
use Rattle.sb_kernel.specs.Openings.{opened}
use Rattle.sb_rule.specs.WellMade.{are_well_made}
use Rattle.sb_rule.specs.declared.policies.Policy.{Policy}

-- the policy of a target is one of this many
abbrev pub is_judged : ℕ → TargetScript → Bool
is_judged count target = nat_lt target.policy count

-- a script is ready for policies: it is sound and they are well made, each target names one of them, and what is there at the start can be
-- placed in turn
abbrev pub is_ready : List Policy → Script → Bool
is_ready policies script =
    is_sound script && are_well_made policies && list_all (is_judged (length policies)) script.targets && is_ok (opened script.start)

-- All that is known of a script that is ready for policies: it is ready, the strings of its calls are made of units of 16 bits, and its targets have
-- short names. Laws ask for this and for no part of it, and `ReadyScript` supplies it
pub record IsReady (policies : List Policy) (script : Script) : Type 0 where
  pub ready : is_ready policies script ≡ true
  pub units : script_has_units script ≡ true
  pub short : has_short_names script ≡ true
