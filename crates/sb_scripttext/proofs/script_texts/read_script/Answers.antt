use Rattle.std.proofs.Common.{rules, ◌≡◌, true}
use Rattle.std.specs.Prelude.{Ok}
use Rattle.sb_rule.specs.WellMade.{are_well_made}
use Rattle.sb_scripttext.proofs.Keeping.{read_is_sound}
use Rattle.sb_scripttext.specs.ScriptTexts.{reading}
use Rattle.sb_scripttext.proofs.script_texts.read_script.Goals as goal

pub of-requires : goal.of-requires
of-requires c =
    let policies = c.args.policies.list in
    let text = c.args.text.now in
    let script = c.in_ok-script.script in
    let made : are_well_made policies ≡ true = search rules in
    let read : reading policies text ≡ Ok script = search rules in
    read_is_sound c.read_scripts_are_ready.ensures policies text script made read
