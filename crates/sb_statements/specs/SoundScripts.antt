-- What is known of a script that is kept as a sound one.
use Rattle.std.specs.Prelude.{◌≡◌, Bool, true, ◌&&◌}
use Rattle.std.specs.List.{list_all}
use Rattle.sb_call.specs.ShortNames.{is_short_name}
use Rattle.sb_statements.specs.Soundness.{is_sound}
use Rattle.sb_statements.specs.Units.{script_has_units}
use Rattle.sb_statements.specs.declared.scripts.Script.{Script}
use Rattle.sb_statements.specs.declared.scripts.TargetScript.{TargetScript}

-- the name of a target is a short name
abbrev pub has_short_name : TargetScript → Bool
has_short_name target = is_short_name target.name

-- so is each of a script's
abbrev pub has_short_names : Script → Bool
has_short_names script = list_all has_short_name script.targets

-- the script is sound, its strings are made of units, and its targets have short names
abbrev pub is_sound_script : Script → Bool
is_sound_script script = is_sound script && script_has_units script && has_short_names script

-- the same, fact by fact
pub record IsSoundScript (script : Script) : Type 0 where
  pub sound : is_sound script ≡ true
  pub units : script_has_units script ≡ true
  pub short : has_short_names script ≡ true
