-- Each script that is read can be kept as a sound one that is ready for its policies.
use Rattle.std.proofs.Common.{◌≡◌, ℕ, Bool, true, ◌&&◌, List, [], ◌∷◌, length, refl}
use Rattle.std.specs.Prelude.{Ok, is_ok}
use Rattle.std.specs.List.{list_all}
use Rattle.std.proofs.lemmas.Bool.{and_parts, and_from}
use Rattle.sb_book.specs.Readiness.{is_judged, is_ready}
use Rattle.sb_call.specs.ShortNames.{is_short_name}
use Rattle.sb_kernel.specs.Openings.{opened}
use Rattle.sb_rule.specs.WellMade.{are_well_made}
use Rattle.sb_rule.specs.declared.policies.Policy.{Policy}
use Rattle.sb_statements.specs.SoundScripts.{IsSoundScript, has_short_name, has_short_names}
use Rattle.sb_statements.specs.Soundness.{is_sound}
use Rattle.sb_statements.specs.declared.scripts.Script.{Script}
use Rattle.sb_statements.specs.declared.scripts.TargetScript.{TargetScript}
use Rattle.sb_scripttext.specs.Readiness.{ReadScriptsAreReady}
use Rattle.sb_scripttext.specs.ScriptTexts.{reading}
use Rattle.sb_scripttext.specs.Writable.{is_writable_start, is_writable_target, is_writable_thread}

-- targets that can be written have short names
short_each : (targets : List TargetScript) → list_all is_writable_target targets ≡ true → list_all has_short_name targets ≡ true
short_each [] h = refl
short_each (target ∷ targets) h =
    let parts = and_parts (is_writable_target target) (list_all is_writable_target targets) h in
    and_from (has_short_name target) (list_all has_short_name targets)
    (and_parts (is_short_name target.name) (list_all is_writable_thread target.threads) parts.0).0 (short_each targets parts.1)

-- a script that is ready is sound
sound_of : (policies : List Policy) (script : Script) → is_ready policies script ≡ true → is_sound script ≡ true
sound_of policies script h =
    (and_parts (is_sound script) (are_well_made policies)
    (and_parts (is_sound script && are_well_made policies) (list_all (is_judged (length policies)) script.targets)
    (and_parts (is_sound script && are_well_made policies && list_all (is_judged (length policies)) script.targets) (is_ok (opened script.start)) h).0).0).0

-- so it has short names if it can be written
pub short_of : (script : Script) → (list_all is_writable_start script.start && list_all is_writable_target script.targets) ≡ true → has_short_names script ≡ true
short_of script h = short_each script.targets (and_parts (list_all is_writable_start script.start) (list_all is_writable_target script.targets) h).1

pub read_is_ready : ReadScriptsAreReady → (policies : List Policy) (text : List ℕ) (script : Script) → are_well_made policies ≡ true → reading policies text ≡ Ok script
    → is_ready policies script ≡ true
read_is_ready law policies text script made e = (law policies text script made e).ready

pub read_is_sound : ReadScriptsAreReady → (policies : List Policy) (text : List ℕ) (script : Script) → are_well_made policies ≡ true
    → reading policies text ≡ Ok script → IsSoundScript script
read_is_sound law policies text script made e =
    let known = law policies text script made e in
    record { sound = sound_of policies script known.ready; units = known.units; short = known.short }
