-- What is true of each script that is read: it is ready for its policies, and its strings are made of units.
use Rattle.std.specs.Prelude.{◌≡◌, ℕ, true, List, Ok}
use Rattle.sb_book.specs.Readiness.{IsReady}
use Rattle.sb_rule.specs.WellMade.{are_well_made}
use Rattle.sb_rule.specs.declared.policies.Policy.{Policy}
use Rattle.sb_statements.specs.Units.{script_has_units}
use Rattle.sb_statements.specs.declared.scripts.Script.{Script}
use Rattle.sb_scripttext.specs.ScriptTexts.{reading}

-- each script that is read for well-made policies is ready for them
abbrev pub ReadScriptsAreReady : Type 0
ReadScriptsAreReady = (policies : List Policy) (text : List ℕ) (script : Script) → are_well_made policies ≡ true → reading policies text ≡ Ok script
    → IsReady policies script

-- the strings of its calls are made of units
abbrev pub ReadScriptsHaveUnits : Type 0
ReadScriptsHaveUnits = (policies : List Policy) (text : List ℕ) (script : Script) → reading policies text ≡ Ok script → script_has_units script ≡ true
