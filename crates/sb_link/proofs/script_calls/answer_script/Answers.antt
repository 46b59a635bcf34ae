use Rattle.std.proofs.Common.{rules, ◌≡◌, ◌∙◌, sym, subst, true, List}
use Rattle.std.specs.List.{list_all}
use Rattle.sb_book.specs.Histories.{Setting, setting_of}
use Rattle.sb_statements.specs.PlacedStatements.{Placed, placed_statements}
use Rattle.sb_statements.specs.Soundness.{is_sound}
use Rattle.sb_statements.specs.Units.{script_has_units}
use Rattle.sb_statements.specs.declared.scripts.Script.{Script}
use Rattle.sb_link.specs.LinkedHistories.{LinkedHistory, new_linked}
use Rattle.sb_link.specs.ScriptCalls.{can_be_asked, have_channels}
use Rattle.sb_link.proofs.Asking.{all_can_be_asked, sound_has_channels}
use Rattle.sb_link.proofs.script_calls.answer_script.Goals as goal

pub answer_statements-requires-clause-channels : goal.answer_statements-requires-clause-channels
answer_statements-requires-clause-channels g c κs within =
    let script : c.script-script.result.now ≡ c.args.start.script = search rules in
    let sound : is_sound c.args.start.script ≡ true = subst (λ (s : Script). is_sound s ≡ true) script c.establish_sound.ensures.sound in
    let made : c.new-book.result ≡ new_linked c.args.links (setting_of c.args.start.policies c.args.start.script) = search rules in
    subst (λ (s : LinkedHistory). have_channels s.history.setting ≡ true) (sym made) (sound_has_channels c.args.start.policies c.args.start.script sound)

pub answer_statements-requires-clause-asked : goal.answer_statements-requires-clause-asked
answer_statements-requires-clause-asked g c κs within =
    let policies = c.args.start.policies in
    let start = c.args.start.script in
    let script : c.script-script.result.now ≡ start = search rules in
    let sound : is_sound start ≡ true = subst (λ (s : Script). is_sound s ≡ true) script c.establish_sound.ensures.sound in
    let units : script_has_units start ≡ true = subst (λ (s : Script). script_has_units s ≡ true) script c.establish_sound.ensures.units in
    let made : c.new-book.result ≡ new_linked c.args.links (setting_of policies start) = search rules in
    let statements : c.statements.result ≡ placed_statements start = search rules in
    let asked = all_can_be_asked policies start (placed_statements start) (c.placed_statements_are_sound.ensures start sound units) in
    subst (λ (s : LinkedHistory). list_all (can_be_asked s.history.setting) c.statements.result ≡ true) (sym made)
    (subst (λ (ps : List Placed). list_all (can_be_asked (setting_of policies start)) ps ≡ true) (sym statements) asked)
